use Rattle.std.proofs.Common.{◌≡◌, ◌<◌, ◌++◌, ℕ, [], ◌∷◌, List, length, get_or, subst, sym, ◌∙◌}
use Rattle.std.proofs.lemmas.List.{get_or_default, length-set}
use Rattle.dv_react.specs.declared.running.Running.{Running}
use Rattle.dv_share.specs.declared.index.Indexed.{Indexed}
use Rattle.dv_local.specs.Orders.{AreCounted}
use Rattle.dv_local.proofs.Orders.{let_go}
use Rattle.dv_local.proofs.Undoing.{all_last}
use Rattle.dv_local.proofs.former.let_go_all.Goals as goal

pub loop-list-preserved : goal.loop-list-preserved
loop-list-preserved c =
    let lists : List (List (Indexed Running)) = c.loop-list.copies.items in
    let n : ℕ = c.in-Some.list in
    let counted : AreCounted (c.pop.new.self.items ++ n ∷ []) lists =
    subst (λ (o : List ℕ). AreCounted o lists) c.in-Some.ensures.items c.loop-list.invariant.1 in
    let lt : n < length lists = all_last (λ (m : ℕ). m < length lists) c.pop.new.self.items n counted.within in
    let at : get_or lists n [] ≡ c.index_mut.result.now =
    get_or_default lists n [] c.index_mut.result.now lt ∙ sym c.index_mut.ensures.value in (
      length-set lists n c.let_go.new.self ∙ c.loop-list.invariant.0,
      (let_go c.pop.new.self.items lists n c.index_mut.result.now c.let_go.new.self counted at c.let_go.ensures).1,
    )
