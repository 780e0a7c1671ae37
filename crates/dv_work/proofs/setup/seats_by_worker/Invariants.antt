use Rattle.std.proofs.Common.{◌≡◌, length}
use Rattle.std.specs.List.{All}
use Rattle.std.specs.Vec.Iter.{into_iter_items}
use Rattle.dv_work.specs.Workers.{AreByWorker, Seated}
use Rattle.dv_work.specs.Seats.{Sits}
use Rattle.dv_work.proofs.setup.seats_by_worker.Given as goal

abbrev pub invariant-loop-seat : goal.invariant-loop-seat
invariant-loop-seat g l = record {
  rest : All (Sits g.N.OfJob.job g.P.LogicalProcess.state g.P.LogicalProcess.handed g.P.LogicalProcess.valid l.links)
      (into_iter_items l.seat-iterator);
  count : length l.by_worker.items ≡ l.workers;
  workers : AreByWorker l.workers l.by_worker.items;
  seated : All (Seated g.N.OfJob.job g.P.LogicalProcess.state g.P.LogicalProcess.handed g.P.LogicalProcess.valid l.links) l.by_worker.items;
}
