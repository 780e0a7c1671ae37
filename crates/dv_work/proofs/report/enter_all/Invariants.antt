use Rattle.std.specs.List.{All}
use Rattle.std.specs.Vec.Iter.{into_iter_items}
use Rattle.dv_work.specs.Seats.{Reports}
use Rattle.dv_work.specs.Reached.{AreReached}
use Rattle.dv_work.proofs.report.enter_all.Given as goal

abbrev pub invariant-loop-seat : goal.invariant-loop-seat
invariant-loop-seat g l =
    All (Reports g.N.OfJob.job g.P.LogicalProcess.state g.P.LogicalProcess.handed g.P.LogicalProcess.valid)
    (into_iter_items l.seat-iterator)
    × AreReached g.N.OfJob.job l.rest.items
