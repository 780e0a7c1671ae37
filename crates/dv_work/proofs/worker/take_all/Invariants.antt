use Rattle.std.proofs.Common.{◌≡◌, length}
use Rattle.dv_work.specs.Seats.{Sits}
use Rattle.dv_work.proofs.worker.take_all.Given as goal

abbrev pub invariant-loop-index : goal.invariant-loop-index
invariant-loop-index g l =
    Sits g.N.OfJob.job g.P.LogicalProcess.state g.P.LogicalProcess.handed g.P.LogicalProcess.valid l.floor.links.now l.seat
    × (length l.seat.ins.items ≡ length l.fn.seat.ins.items)
    × (l.seat.outs ≡ l.fn.seat.outs)
