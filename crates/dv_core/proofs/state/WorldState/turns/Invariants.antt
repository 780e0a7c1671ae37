use Rattle.std.proofs.Common.{◌≡◌, ◌-◌, ◌++◌, map}
use Rattle.dv_conservative.specs.Rounds.{moves_from, round, turns_from}
use Rattle.dv_core.specs.Worlds.{shown}
use Rattle.dv_core.specs.Standing.{Continues, Stands}
use Rattle.dv_core.proofs.state.WorldState.turns.Given as goal

abbrev pub invariant-loop-process : goal.invariant-loop-process
invariant-loop-process g l =
    let job = g.J.PlannedJob.means l.initial.self.job in
    record {
      stands : Stands g.J.PlannedJob.means g.P.LogicalProcess.state g.P.LogicalProcess.valid l.self;
      same : l.self.job ≡ l.initial.self.job;
      handed : map g.P.LogicalProcess.handed l.self.processes.items ≡ map g.P.LogicalProcess.handed l.initial.self.processes.items;
      count : l.count ≡ job.processes;
      continues : Continues job (round job) (turns_from l.process (l.count - l.process) ++ moves_from 0 job.channels)
          (shown g.J.PlannedJob.means g.P.LogicalProcess.state l.initial.self) (shown g.J.PlannedJob.means g.P.LogicalProcess.state l.self);
    }
