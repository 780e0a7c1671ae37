-- What a slot may hold, where there is something.
use Rattle.std.specs.Prelude.{Option, Some, None}
use Rattle.dv_bag.specs.declared.state.Datum.{Datum}
use Rattle.dv_code.specs.Shape.{FitsSlot}
use Rattle.dv_code.specs.declared.shape.Slot.{Slot}

abbrev pub FitsAt : Slot → Option Datum → Type 0
FitsAt s None = ⊥
FitsAt s (Some d) = FitsSlot s d
