use Rattle.std.proofs.Common.{◌≡◌, length}
use Rattle.dv_work.proofs.bell.bells_of.Given as goal

abbrev pub invariant-loop-worker : goal.invariant-loop-worker
invariant-loop-worker l = length l.bells.items ≡ l._worker
