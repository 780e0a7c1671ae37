use Rattle.std.proofs.Common.{◌≡◌, length}
use Rattle.dv_run.proofs.workers.benches_of.Given as goal

abbrev pub invariant-loop-worker : goal.invariant-loop-worker
invariant-loop-worker l = length l.benches.items ≡ l._worker
