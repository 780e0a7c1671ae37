-- Holds that never fault.
use Rattle.std.proofs.Common.{◌≡◌, Bool, true, false, ◌&&◌, refl, sym}

-- what does not fault is no fault, whether it can be asked or not
pub no_fault : (can_ask faults : Bool) → faults ≡ false → false ≡ (can_ask && faults)
no_fault true faults never = sym never
no_fault false faults never = refl
