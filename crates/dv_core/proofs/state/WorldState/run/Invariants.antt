use Rattle.std.proofs.Common.{◌≡◌, List, ◌++◌, length, drop}
use Rattle.std.specs.Vec.{vec_capacity, vec_len}
use Rattle.dv_conservative.specs.World.{World}
use Rattle.dv_core.specs.Worlds.{IsRunWithProgress, shown, with_replies}
use Rattle.dv_core.specs.Standing.{Stands}
use Rattle.dv_core.specs.declared.step.Reply.{Reply}
use Rattle.dv_core.proofs.state.WorldState.run.Given as goal

abbrev pub invariant-loop-step : goal.invariant-loop-step
invariant-loop-step g l =
    let job = g.J.PlannedJob.means l.initial.self.job in
    record {
      stands : Stands g.J.PlannedJob.means g.P.LogicalProcess.state g.P.LogicalProcess.valid l.self;
      same : l.self.job ≡ l.initial.self.job;
      room : (vec_len l.replies ≡ l.step-index) × (vec_capacity l.replies ≡ length l.steps);
      run : (t : List Reply) (u : World) → IsRunWithProgress job (with_replies (drop l.step-index l.steps) t)
          (shown g.J.PlannedJob.means g.P.LogicalProcess.state l.self) u
          → IsRunWithProgress job (with_replies l.steps (l.replies.items ++ t))
          (shown g.J.PlannedJob.means g.P.LogicalProcess.state l.initial.self) u;
    }
