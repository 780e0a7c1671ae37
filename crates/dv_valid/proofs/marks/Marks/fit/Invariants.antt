use Rattle.std.proofs.Common.{◌≡◌, ℕ, ◌<◌, length, Some}
use Rattle.std.specs.Prelude.{slice_get}
use Rattle.dv_code.specs.Shape.{left_by}
use Rattle.dv_code.specs.Valid.{IsFine}
use Rattle.dv_code.specs.Limits.{deepest_loops}
use Rattle.dv_code.specs.declared.instruction.Instruction.{Instruction}
use Rattle.dv_valid.specs.Marks.{mark_of}
use Rattle.dv_valid.proofs.marks.Marks.fit.Given as goal

-- the instructions so far are fine
abbrev pub invariant-loop-address : goal.invariant-loop-address
invariant-loop-address l = (address : ℕ) (i : Instruction) → address < l.address → slice_get l.code address ≡ Some i
    → IsFine l.shape (left_by l.shape.sort) deepest_loops (length l.self.by_address.items) (mark_of l.self) address i
