use Rattle.std.proofs.Common.{◌≡◌}
use Rattle.std.specs.List.{All}
use Rattle.std.specs.Vec.Iter.{into_iter_items}
use Rattle.dv_work.specs.Workers.{Reported}
use Rattle.dv_work.specs.Reached.{AreReached}
use Rattle.dv_work.proofs.Endings.{halts_of}
use Rattle.dv_work.proofs.report.report_of.Given as goal

abbrev pub invariant-loop-worked : goal.invariant-loop-worked
invariant-loop-worked g l =
    All (Reported g.N.OfJob.job g.P.LogicalProcess.state g.P.LogicalProcess.handed g.P.LogicalProcess.valid)
    (into_iter_items l.worked-iterator)
    × AreReached g.N.OfJob.job l.rest.items
    × (l.halts.items ≡ halts_of l.yielded)
