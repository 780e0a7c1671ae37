use Rattle.std.proofs.Common.{◌≤◌, length, vec_len}
use Rattle.std.specs.List.{All}
use Rattle.dv_work.specs.Workers.{Reported, Seated}
use Rattle.dv_work.proofs.run.start_and_join.Given as goal

abbrev pub invariant-loop-seats : goal.invariant-loop-seats
invariant-loop-seats g l =
    (length l.by_worker.items ≤ length l.floor.stream.bells.now)
    × All (Seated g.N.OfJob.job g.P.LogicalProcess.state g.P.LogicalProcess.handed g.P.LogicalProcess.valid l.floor.links.now)
    l.by_worker.items
    × All (Reported g.N.OfJob.job g.P.LogicalProcess.state g.P.LogicalProcess.handed g.P.LogicalProcess.valid) l.all.items

abbrev pub decreases-loop-seats : goal.decreases-loop-seats
decreases-loop-seats g l = vec_len l.by_worker

abbrev pub invariant-loop-worked : goal.invariant-loop-worked
invariant-loop-worked g l = All (Reported g.N.OfJob.job g.P.LogicalProcess.state g.P.LogicalProcess.handed g.P.LogicalProcess.valid)
    l.all.items

abbrev pub decreases-loop-worked : goal.decreases-loop-worked
decreases-loop-worked g l = vec_len l.handles
