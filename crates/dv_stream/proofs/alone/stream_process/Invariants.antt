use Rattle.std.proofs.Common.{◌≡◌, ◌-◌, ◌<◌, ◌≤◌, map}
use Rattle.dv_core.specs.Worlds.{EndsAs, IsTrueToModel, kept_by, shown}
use Rattle.dv_plan.specs.Clocks.{least_time}
use Rattle.dv_stream.specs.Alone.{HasHandedTo}
use Rattle.dv_stream.specs.Written.{IsWrittenTo}
use Rattle.dv_stream.proofs.alone.stream_process.Given as goal

abbrev pub invariant-loop-left : goal.invariant-loop-left
invariant-loop-left g l =
    let means = g.J.PlannedJob.means in
    let state = g.P.LogicalProcess.state in
    let job = means l.fn.world.job in
    record {
      left : l.left ≤ l.rounds;
      some : 0 < l.at_once;
      same : l.world.job ≡ l.fn.world.job;
      rounds : EndsAs job (l.rounds - l.left) l.ended (shown means state l.fn.world) (shown means state l.world);
      true_to_model : IsTrueToModel (means l.world.job) (kept_by state l.world);
      handed : HasHandedTo job l.tree l.written (map g.P.LogicalProcess.handed l.world.processes.items);
      written : IsWrittenTo job l.tree (g.W.Write.contents l.fn.writer) (g.W.Write.contents l.writer) l.written;
      least : l.written.mark ≡ least_time (map (λ x. (state x).position.clock) l.world.processes.items);
    }

abbrev pub decreases-loop-left : goal.decreases-loop-left
decreases-loop-left g l = l.left
