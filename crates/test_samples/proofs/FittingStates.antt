-- States whose slots hold each what they may hold.
use Rattle.std.proofs.Common.{◌≡◌, ℕ, zero, suc, length, List, [], ◌∷◌, Some, refl, arith}
use Rattle.std.specs.Prelude.{slice_get}
use Rattle.dv_bag.specs.declared.state.Datum.{Datum}
use Rattle.dv_code.specs.Shape.{Fits}
use Rattle.dv_code.specs.declared.shape.Slot.{Slot}
use Rattle.test_samples.specs.Fitting.{FitsAt}

pub fits_each : (ss : List Slot) (ds : List Datum) → length ss ≡ length ds
    → ((index : ℕ) (s : Slot) → slice_get ss index ≡ Some s → FitsAt s (slice_get ds index)) → Fits ss ds
fits_each [] [] same each = tt
fits_each [] (d ∷ ds) same each = absurd (omega (arith, same))
fits_each (s ∷ ss) [] same each = absurd (omega (arith, same))
fits_each (s ∷ ss) (d ∷ ds) same each =
    let rest : length ss ≡ length ds = omega (arith, same) in
    (each zero s refl, fits_each ss ds rest (λ index. each (suc index)))
