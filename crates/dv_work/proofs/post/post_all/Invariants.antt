use Rattle.dv_work.specs.Seats.{StaySeated}
use Rattle.dv_work.proofs.post.post_all.Given as goal

abbrev pub invariant-loop-i : goal.invariant-loop-i
invariant-loop-i g l =
    StaySeated g.N.OfJob.job g.P.LogicalProcess.state g.P.LogicalProcess.handed g.P.LogicalProcess.valid l.floor.links.now l.fn.seats
    l.seats
