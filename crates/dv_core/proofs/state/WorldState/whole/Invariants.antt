use Rattle.std.proofs.Common.{◌≡◌, ℕ, ◌<◌}
use Rattle.dv_core.specs.Worlds.{end_time, shown}
use Rattle.dv_core.proofs.state.WorldState.whole.Given as goal

abbrev pub invariant-loop-process : goal.invariant-loop-process
invariant-loop-process g l =
    (p : ℕ) → p < l.process-index → (shown g.J.PlannedJob.means g.P.LogicalProcess.state l.self).clock p ≡ end_time
    (g.J.PlannedJob.means l.self.job)
