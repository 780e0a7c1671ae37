use Rattle.std.proofs.Common.{◌≡◌, map}
use Rattle.dv_conservative.specs.Rounds.{AreRounds}
use Rattle.dv_core.specs.Worlds.{shown}
use Rattle.dv_core.specs.Standing.{Stands}
use Rattle.dv_core.proofs.state.WorldState.serial.Given as goal

abbrev pub invariant-loop-done : goal.invariant-loop-done
invariant-loop-done g l =
    let job = g.J.PlannedJob.means l.initial.self.job in
    record {
      stands : Stands g.J.PlannedJob.means g.P.LogicalProcess.state g.P.LogicalProcess.valid l.self;
      same : l.self.job ≡ l.initial.self.job;
      handed : map g.P.LogicalProcess.handed l.self.processes.items ≡ map g.P.LogicalProcess.handed l.initial.self.processes.items;
      rounds : AreRounds job l._done (shown g.J.PlannedJob.means g.P.LogicalProcess.state l.initial.self)
          (shown g.J.PlannedJob.means g.P.LogicalProcess.state l.self);
    }
