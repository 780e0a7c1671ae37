use Rattle.std.proofs.Common.{◌≡◌, length, drop, map}
use Rattle.dv_conservative.specs.Rounds.{moves_from}
use Rattle.dv_core.specs.Worlds.{shown}
use Rattle.dv_core.specs.Standing.{Continues, Stands}
use Rattle.dv_core.proofs.state.WorldState.moves.Given as goal

abbrev pub invariant-loop-link : goal.invariant-loop-link
invariant-loop-link g l =
    let job = g.J.PlannedJob.means l.initial.self.job in
    record {
      stands : Stands g.J.PlannedJob.means g.P.LogicalProcess.state g.P.LogicalProcess.valid l.self;
      same : l.self.job ≡ l.initial.self.job;
      handed : map g.P.LogicalProcess.handed l.self.processes.items ≡ map g.P.LogicalProcess.handed l.initial.self.processes.items;
      count : l.count ≡ length job.channels;
      continues : Continues job (moves_from 0 job.channels) (moves_from l.link (drop l.link job.channels))
          (shown g.J.PlannedJob.means g.P.LogicalProcess.state l.initial.self) (shown g.J.PlannedJob.means g.P.LogicalProcess.state l.self);
    }
