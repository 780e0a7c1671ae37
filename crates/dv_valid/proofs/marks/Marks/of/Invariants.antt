use Rattle.std.proofs.Common.{◌≡◌, ℕ, ◌<◌, ◌≤◌, length}
use Rattle.dv_code.specs.Shape.{Shape}
use Rattle.dv_code.specs.Valid.{Mark as Meant}
use Rattle.dv_valid.specs.Marks.{AreNumbered, Fit, mark_of}
use Rattle.dv_valid.proofs.marks.Marks.of.Given as goal

-- the marks so far are the only ones that fit
abbrev pub invariant-loop-address : goal.invariant-loop-address
invariant-loop-address l = record {
  numbered : AreNumbered l.marks;
  one_each : length l.marks.by_address.items ≡ length l.code;
  only : (shape : Shape) (marks : ℕ → Meant) → shape.sort ≡ l.sort → Fit shape l.code marks
      → (address : ℕ) → l.address ≤ address → address < length l.code → mark_of l.marks address ≡ marks address;
}
