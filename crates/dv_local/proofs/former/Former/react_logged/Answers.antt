use Rattle.std.proofs.Common.{◌≡◌, ◌<◌, ◌++◌, ℕ, [], ◌∷◌, List, true, length, get_or, set}
use Rattle.std.proofs.Common.{ap, ap₂, subst, sym, ◌∙◌, arith}
use Rattle.std.specs.Option.{is_some}
use Rattle.std.proofs.lemmas.List.{get_or_default, length-set}
use Rattle.dv_react.specs.declared.running.Running.{Running}
use Rattle.dv_share.specs.declared.index.Indexed.{Indexed}
use Rattle.dv_local.specs.Orders.{AreCounted, in_order, in_turn}
use Rattle.dv_local.specs.Reacting.{former_of}
use Rattle.dv_local.proofs.Orders.{IsPushed, pushed, several_in_turn}
use Rattle.dv_local.proofs.Reacted.{one_former}
use Rattle.dv_local.proofs.former.Former.react_logged.Given.{Over}
use Rattle.dv_local.proofs.former.Former.react_logged.Goals as goal
use Rattle.dv_local.proofs.former.Former.react_logged.Goals.{then-last-eq0, else-last-eq0+in_ok-reserve}

module _ (g : Over) (c : goal.After-push_reserved g) where
  abbrev n : ℕ
  n = c.if-last-eq0.list

  abbrev lists : List (List (Indexed Running))
  lists = c.if-last-eq0.self-inside.copies.items

  abbrev order : List ℕ
  order = c.if-last-eq0.self-inside.order.items

  abbrev copy : Indexed Running
  copy = record { index = c.args.visit.now.arrival.now.index; what = c.args.component.now }

  there : is_some c.in_ok-happened.happened ≡ true
  there = sym c.is_some.ensures ∙ c.if-is_some.true

  one : former_of c.args.visit.now.arrival.now.index c.args.component.now c.in_ok-happened.happened ≡ copy ∷ []
  one = one_former c.args.visit.now.arrival.now.index c.args.component.now c.in_ok-happened.happened there

  lists_are : lists ≡ c.self.inside.copies.items
  lists_are = elim c.if-last-eq0.branch [
    | then-last-eq0 w ↦ ap (λ i. i.copies.items) w.self-inside-is
    | else-last-eq0+in_ok-reserve w ↦ ap (λ i. i.copies.items) w.self-inside-is
  ]

  order_is : order ≡ c.self.inside.order.items
  order_is = elim c.if-last-eq0.branch [
    | then-last-eq0 w ↦ ap (λ i. i.order.items) w.self-inside-is
    | else-last-eq0+in_ok-reserve w ↦ ap (λ i. i.order.items) w.self-inside-is ∙ w.in_ok-reserve.ensures.items
  ]

  count : c.len-last.result ≡ length lists
  count = c.len-last.ensures ∙ c.self.inside.copies.ok.0 ∙ sym (ap length lists_are)

  several : 1 < length lists
  several = omega (arith, c.if-last-gt0.true, count)

  within : n < length lists
  within = elim c.if-last-eq0.branch [
    | then-last-eq0 w ↦ omega (arith, w.list-is, several)
    | else-last-eq0+in_ok-reserve w ↦ omega (arith, w.list-is, w.min-list.ensures, count, several)
  ]

  counted : AreCounted order lists
  counted =
      let ours : 1 < length c.self.inside.copies.items = subst (λ (ls : List (List (Indexed Running))). 1 < length ls) lists_are several in
      let theirs : AreCounted c.self.inside.order.items c.self.inside.copies.items = c.self.invariant.1 ours in
      subst (λ (o : List ℕ). AreCounted o lists) (sym order_is)
      (subst (λ (ls : List (List (Indexed Running))). AreCounted c.self.inside.order.items ls) (sym lists_are) theirs)

  before : in_turn order lists ≡ c.args.self.now
  before = ap₂ (λ (o : List ℕ) (ls : List (List (Indexed Running))). in_turn o ls) order_is lists_are ∙ c.self.view_is

  at : get_or lists n [] ≡ c.index_mut.result.now
  at = get_or_default lists n [] c.index_mut.result.now within ∙ sym c.index_mut.ensures.value

  -- what the component was lies behind the others of its list
  pushed_here : IsPushed order lists n c.react_copied.new.self copy
  pushed_here = pushed order lists n c.index_mut.result.now c.react_copied.new.self copy within counted at
      (c.in_ok-happened.ensures.copies ∙ ap (λ (l : List (Indexed Running)). c.index_mut.result.now ++ l) one)

  after : c.push_reserved.new.self.items ≡ order ++ n ∷ []
  after = c.push_reserved.ensures.items

  as_many : 1 < length (set lists n c.react_copied.new.self)
  as_many = omega (arith, several, length-set lists n c.react_copied.new.self)

pub invariant_of-self-then-is_some : goal.invariant_of-self-then-is_some
invariant_of-self-then-is_some g c =
    let now = set (lists g c) (n g c) c.react_copied.new.self in
    let here = pushed_here g c in
    (here.some, λ _. subst (λ (o : List ℕ). AreCounted o now) (sym (after g c)) here.counted)

pub returns-then-is_some-clause-former : goal.returns-then-is_some-clause-former
returns-then-is_some-clause-former g c =
    let former = former_of c.args.visit.now.arrival.now.index c.args.component.now c.in_ok-happened.happened in
    let now = set (lists g c) (n g c) c.react_copied.new.self in
    several_in_turn c.push_reserved.new.self.items now (as_many g c)
    ∙ ap (λ (o : List ℕ). in_order o now) (after g c)
    ∙ (pushed_here g c).items
    ∙ ap (λ (l : List (Indexed Running)). in_order (order g c) (lists g c) ++ l) (sym (one g c))
    ∙ ap (λ (l : List (Indexed Running)). l ++ former) (sym (several_in_turn (order g c) (lists g c) (several g c)) ∙ before g c)
