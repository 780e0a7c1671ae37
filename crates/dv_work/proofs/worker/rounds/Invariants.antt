use Rattle.std.specs.List.{All}
use Rattle.dv_work.specs.Seats.{Sits}
use Rattle.dv_work.proofs.worker.rounds.Given as goal

abbrev pub invariant-loop : goal.invariant-loop
invariant-loop g l =
    All (Sits g.N.OfJob.job g.P.LogicalProcess.state g.P.LogicalProcess.handed g.P.LogicalProcess.valid l.floor.links.now) l.seats
