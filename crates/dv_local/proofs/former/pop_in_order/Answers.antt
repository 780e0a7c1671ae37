use Rattle.std.proofs.Common.{◌≡◌, ◌<◌, ◌++◌, ℕ, [], ◌∷◌, List, length, get_or, ap, subst, sym, ◌∙◌}
use Rattle.std.proofs.lemmas.List.{get_or_default}
use Rattle.dv_react.specs.declared.running.Running.{Running}
use Rattle.dv_share.specs.declared.index.Indexed.{Indexed}
use Rattle.dv_local.specs.Orders.{AreCounted, in_order}
use Rattle.dv_local.proofs.Orders.{IsPopped, popped}
use Rattle.dv_local.proofs.Undoing.{all_last}
use Rattle.dv_local.proofs.former.pop_in_order.Goals as goal

-- the last one, out of its list
popped_here : (c : goal.After-copies-1)
    → IsPopped c.pop.new.self.items c.args.copies.now.items c.in-Some.list c.pop-in-Some.new.self c.pop-in-Some.result
popped_here c =
    let lists : List (List (Indexed Running)) = c.args.copies.now.items in
    let n : ℕ = c.in-Some.list in
    let counted : AreCounted (c.pop.new.self.items ++ n ∷ []) lists =
    subst (λ (o : List ℕ). AreCounted o lists) c.in-Some.ensures.items c.requires in
    let lt : n < length lists = all_last (λ (m : ℕ). m < length lists) c.pop.new.self.items n counted.within in
    let at : get_or lists n [] ≡ c.index_mut.result.now =
    get_or_default lists n [] c.index_mut.result.now lt ∙ sym c.index_mut.ensures.value in
    popped c.pop.new.self.items lists n c.pop-in-Some.new.self c.pop-in-Some.result counted (at ∙ c.pop-in-Some.ensures.items)
    (λ many. c.pop-in-Some.ensures.some.1 (subst (λ (l : List (Indexed Running)). 0 < length l) at many))

-- all before it was moved out
whole : (c : goal.After-copies-1)
    → in_order c.args.order.now.items c.args.copies.now.items
    ≡ in_order (c.pop.new.self.items ++ c.in-Some.list ∷ []) c.args.copies.now.items
whole c = ap (λ (o : List ℕ). in_order o c.args.copies.now.items) c.in-Some.ensures.items

pub returns-in-Some-clause-counted : goal.returns-in-Some-clause-counted
returns-in-Some-clause-counted c = (popped_here c).counted

pub returns-in-Some-clause-items : goal.returns-in-Some-clause-items
returns-in-Some-clause-items c = whole c ∙ (popped_here c).items

pub returns-in-Some-clause-some : goal.returns-in-Some-clause-some
returns-in-Some-clause-some c = (
  (λ there. subst (λ (l : List (Indexed Running)). 0 < length l) (sym (whole c)) (popped_here c).many),
  (λ many. (popped_here c).there),
)
