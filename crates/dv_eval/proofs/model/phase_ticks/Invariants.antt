use Rattle.std.proofs.Common.{◌≡◌, drop, map}
use Rattle.dv_syntax.specs.Trees.{atomic_of, hold_of}
use Rattle.dv_eval.specs.Scope.{hold_ticks}
use Rattle.dv_eval.proofs.model.phase_ticks.Given as goal

abbrev pub invariant-loop-item : goal.invariant-loop-item
invariant-loop-item l = hold_ticks l.phase (map hold_of (drop l.item-index l.item-items)) ≡ hold_ticks l.phase (atomic_of l.model).holds
