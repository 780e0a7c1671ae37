use Rattle.std.proofs.Common.{subst, sym, refl, ◌∙◌}
use Rattle.std.proofs.lemmas.Int.{to_z-of_z}
use Rattle.dv_bag.specs.Bag.{IsBag}
use Rattle.dv_bag.proofs.Pairs.{first_copies, more_copies, some_copies, with_copies_bag}
use Rattle.dv_bag.proofs.bag.add_copies.Goals as goal

pub returns-in-Ok-clause-ok : goal.returns-in-Ok-clause-ok
returns-in-Ok-clause-ok c =
    let found = rw c.as_slice.ensures at c.in-Ok.ensures.found in
    more_copies _ _ c.args.pairs.now.items _ _ _ _ (to_z-of_z _ _ c.ranges.value) refl c.deref_mut.ensures.value c.deref_mut.ensures.value _
    _ found c.saturating_add.ensures
    ∙ sym (some_copies c.args.value c.args.copies c.args.pairs.now.items c.requires.some)

pub returns-in-Ok-clause-bag : goal.returns-in-Ok-clause-bag
returns-in-Ok-clause-bag c = subst IsBag (sym (returns-in-Ok-clause-ok c)) (with_copies_bag _ _ _ c.requires.bag)

pub returns-in_ok-put-in-Err-clause-ok : goal.returns-in_ok-put-in-Err-clause-ok
returns-in_ok-put-in-Err-clause-ok c =
    let items = c.args.pairs.now.items in
    let absent = rw c.as_slice.ensures at c.in-Err.ensures.absent in
    first_copies _ _ items items items items _ (to_z-of_z _ _ c.ranges.value) refl refl refl _ _ c.requires.bag
    c.ranges.copies.fits absent c.in_ok-put-in-Err.ensures.ok
    ∙ sym (some_copies c.args.value c.args.copies items c.requires.some)

pub returns-in_ok-put-in-Err-clause-bag : goal.returns-in_ok-put-in-Err-clause-bag
returns-in_ok-put-in-Err-clause-bag c =
    subst IsBag (sym (returns-in_ok-put-in-Err-clause-ok c)) (with_copies_bag _ _ _ c.requires.bag)
