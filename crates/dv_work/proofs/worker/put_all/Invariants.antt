use Rattle.std.proofs.Common.{◌≡◌, false, length, true}
use Rattle.dv_work.specs.Seats.{HasEvents, HasToldAtFirst, IsNull, Sits}
use Rattle.dv_work.proofs.Keeping.{KeepsNoneBackAtFirst, RestStays}
use Rattle.dv_work.proofs.worker.put_all.Given as goal

abbrev pub invariant-loop-index : goal.invariant-loop-index
invariant-loop-index g l =
    Sits g.N.OfJob.job g.P.LogicalProcess.state g.P.LogicalProcess.handed g.P.LogicalProcess.valid l.floor.links.now l.seat
    × (length l.seat.outs.items ≡ length l.fn.seat.outs.items)
    × (l.are_nulls_due ≡ true → l.moved ≡ false → HasToldAtFirst g.P.LogicalProcess.state l.index l.seat)
    × RestStays l.index l.fn.seat l.seat
    × (l.are_nulls_due ≡ true → KeepsNoneBackAtFirst IsNull g.P.LogicalProcess.state l.index l.fn.seat l.seat)
    × KeepsNoneBackAtFirst HasEvents g.P.LogicalProcess.state l.index l.fn.seat l.seat
