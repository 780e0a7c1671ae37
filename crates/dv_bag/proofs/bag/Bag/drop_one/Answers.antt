use Rattle.std.proofs.Common.{◌≡◌, ℤ, subst, sym}
use Rattle.std.proofs.lemmas.Int.{to_z-of_z}
use Rattle.dv_bag.specs.Bag.{IsBag, count_of}
use Rattle.dv_bag.proofs.Pairs.{some_read, last_copy, one_copy_less, without_one_absent, without_one_bag}
use Rattle.dv_bag.proofs.bag.Bag.drop_one.Goals as goal

pub overflow_sub-present : goal.overflow_sub-present
overflow_sub-present c =
    let found = rw (c.as_slice.ensures, c.self.view_is) at c.in-Ok.ensures.found in
    some_read _ _ c.args.self.now _ _ _ _ (to_z-of_z _ _ c.ranges.value) c.self.view_is c.deref.ensures c.deref.ensures found

pub returns-then-present-eq1 : goal.returns-then-present-eq1
returns-then-present-eq1 c =
    let found = rw (c.as_slice.ensures, c.self.view_is) at c.in-Ok.ensures.found in
    last_copy _ _ c.args.self.now _ _ _ _ (to_z-of_z _ _ c.ranges.value) c.self.view_is c.deref.ensures c.deref.ensures _ found
    c.if-present-eq1.true c.remove.ensures.items

pub returns-else-present-eq1 : goal.returns-else-present-eq1
returns-else-present-eq1 c =
    let found = rw (c.as_slice.ensures, c.self.view_is) at c.in-Ok.ensures.found in
    one_copy_less _ _ c.args.self.now _ _ _ _ (to_z-of_z _ _ c.ranges.value) c.self.view_is c.deref_mut.ensures.value
    c.deref.ensures found c.if-present-eq1.false

pub returns-in_default : goal.returns-in_default
returns-in_default c =
    let bag = subst IsBag c.self.view_is c.self.invariant in
    let absent = rw (c.as_slice.ensures, c.self.view_is) at c.in_default.ensures.absent in
    sym (without_one_absent _ _ bag (subst (λ (v : ℤ). count_of v c.args.self.now ≡ 0) (to_z-of_z _ _ c.ranges.value) absent.2))

pub invariant_of-self : goal.invariant_of-self
invariant_of-self c = subst IsBag (sym (returns-then-present-eq1 c)) (without_one_bag _ _ (subst IsBag c.self.view_is c.self.invariant))

pub invariant_of-self-else-present-eq1 : goal.invariant_of-self-else-present-eq1
invariant_of-self-else-present-eq1 c =
    subst IsBag (sym (returns-else-present-eq1 c)) (without_one_bag _ _ (subst IsBag c.self.view_is c.self.invariant))
