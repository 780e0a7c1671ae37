use Rattle.std.proofs.Common.{◌≡◌, length}
use Rattle.std.specs.List.{All}
use Rattle.dv_work.specs.Workers.{AreByWorker, Seated}
use Rattle.dv_work.proofs.setup.empty_seats.Given as goal

abbrev pub invariant-loop-worker : goal.invariant-loop-worker
invariant-loop-worker g l =
    (length l.by_worker.items ≡ l._worker)
    × All (Seated g.N.OfJob.job g.P.LogicalProcess.state g.P.LogicalProcess.handed g.P.LogicalProcess.valid l.links) l.by_worker.items
    × AreByWorker l.workers l.by_worker.items
