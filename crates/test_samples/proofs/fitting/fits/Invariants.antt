use Rattle.std.proofs.Common.{◌≡◌, ℕ, ◌<◌, Some}
use Rattle.std.specs.Prelude.{slice_get}
use Rattle.dv_code.specs.declared.shape.Slot.{Slot}
use Rattle.test_samples.specs.Fitting.{FitsAt}
use Rattle.test_samples.proofs.fitting.fits.Given as goal

abbrev pub invariant-loop-index : goal.invariant-loop-index
invariant-loop-index l = (k : ℕ) (s : Slot) → k < l.index → slice_get l.slots k ≡ Some s → FitsAt s (slice_get l.variables k)
