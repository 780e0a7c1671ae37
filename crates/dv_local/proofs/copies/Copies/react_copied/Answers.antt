use Rattle.std.proofs.Common.{◌≡◌, ◌≢◌, ◌++◌, ℕ, [], ◌∷◌, List, Option, Some, None, true}
use Rattle.std.proofs.Common.{ap, ap₂, sym, ◌∙◌}
use Rattle.std.specs.Option.{is_some}
use Rattle.std.proofs.lemmas.List.{take_more_set}
use Rattle.std.proofs.lemmas.Option.{get_or_from_slice_get}
use Rattle.dv_react.specs.declared.happened.Happened.{Happened}
use Rattle.dv_react.specs.declared.running.Running.{Running}
use Rattle.dv_share.specs.declared.index.Indexed.{Indexed}
use Rattle.dv_local.proofs.Reacted.{one_former}
use Rattle.dv_local.proofs.copies.Copies.react_copied.Goals as goal

-- something happened
happens : (h : Option Happened) → is_some h ≡ true → h ≢ None
happens None is e = absurd (cc)
happens (Some h) is e = absurd (cc)

pub returns-then-is_some-clause-copies : goal.returns-then-is_some-clause-copies
returns-then-is_some-clause-copies g c =
    let index : ℕ = c.args.visit.now.arrival.now.index in
    let component : Running = c.args.component.now in
    let count : ℕ = c.self.inside.count in
    let items : List (Indexed Running) = c.keep.new.items.items in
    let there : is_some c.in_ok-happened.happened ≡ true = sym c.is_some.ensures ∙ c.if-is_some.true in
    let before : c.react_member.new.before ≡ component = c.in_ok-happened.ensures.before (happens c.in_ok-happened.happened there) in
    let kept : Indexed Running = record { index = c.index_mut.result.now.index; what = c.react_member.new.before } in
    let copy : Indexed Running = record { index = index; what = component } in
    let at : c.index_mut.result.now ≡ copy =
    c.index_mut.ensures.value
    ∙ get_or_from_slice_get items count copy c.index_mut.result.now c.in_ok-keep.ensures.kept in
    let there_too : kept.index ≡ index = ap (λ (i : Indexed Running). i.index) at in
    let same : kept ≡ copy =
    ap₂ (λ (p : ℕ) (r : Running). let i : Indexed Running = record { index = p; what = r } in i) there_too before in
    take_more_set items count kept c.in_ok-keep.ensures.room
    ∙ ap₂ (λ (l : List (Indexed Running)) (x : Indexed Running). l ++ x ∷ []) (c.in_ok-keep.ensures.same ∙ c.self.view_is) same
    ∙ ap (λ (l : List (Indexed Running)). c.args.self.now ++ l) (sym (one_former index component c.in_ok-happened.happened there))
