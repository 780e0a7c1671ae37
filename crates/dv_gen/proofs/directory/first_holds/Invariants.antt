use Rattle.std.proofs.Common.{◌≡◌, ℕ, drop, map}
use Rattle.dv_check.specs.Tables.{value_for}
use Rattle.dv_syntax.specs.Trees.{hold_of}
use Rattle.dv_eval.specs.Scope.{hold_ticks}
use Rattle.dv_gen.proofs.Directories.{ticks_or}
use Rattle.dv_gen.proofs.directory.first_holds.Given as goal

abbrev pub invariant-loop-hold : goal.invariant-loop-hold
invariant-loop-hold l =
    (phase : ℕ) → ticks_or (value_for l.first phase) (hold_ticks phase (map hold_of (drop l.hold-index l.holds)))
    ≡ hold_ticks phase (map hold_of l.holds)
