use Rattle.std.proofs.Common.{rules, ◌≡◌, ◌<◌, length, arith}
use Rattle.std.proofs.lemmas.Option.{slice_get_within}
use Rattle.test_samples.proofs.FittingStates.{fits_each}
use Rattle.test_samples.proofs.fitting.fits.Goals as goal

pub returns : goal.returns
returns c = λ t. let same : length c.args.slots.now ≡ length c.args.variables.now = search rules in
    fits_each c.args.slots.now c.args.variables.now same (λ k s is.
    let within = slice_get_within c.args.slots.now k s is in
    let over = c.loop-index-test.false in
    let before : k < c.loop-index.index = omega (arith, within, over) in
    c.loop-index.invariant k s before is)
