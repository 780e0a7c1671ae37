use Rattle.std.proofs.Common.{◌≡◌, ◌-◌, ◌≤◌, map}
use Rattle.dv_time.specs.Time.{end_of, rank}
use Rattle.dv_core.specs.Worlds.{EndsAs, IsTrueToModel, kept_by, shown}
use Rattle.dv_plan.specs.Clocks.{least_time}
use Rattle.dv_stream.specs.Rounds.{AreJoined}
use Rattle.dv_stream.specs.Written.{IsWrittenTo}
use Rattle.dv_stream.proofs.rounds.stream_rounds.Given as goal

abbrev pub invariant-loop-left : goal.invariant-loop-left
invariant-loop-left g l =
    let means = g.J.PlannedJob.means in
    let state = g.P.LogicalProcess.state in
    let job = means l.fn.world.job in
    let meant = g.N.OfJob.job in
    let items = l.world.processes.items in
    record {
      left : l.left ≤ l.rounds;
      same : l.world.job ≡ l.fn.world.job;
      tree : l.merger.lines ≡ l.fn.merger.lines;
      joined : AreJoined meant (map state items) (map g.P.LogicalProcess.handed items) l.merger.backlog.clocks;
      mark : l.merger.backlog.mark ≡ l.written.mark;
      within : rank meant.limit l.written.mark ≤ end_of meant.limit meant.horizon;
      rounds : EndsAs job (l.rounds - l.left) l.ended (shown means state l.fn.world) (shown means state l.world);
      true_to_model : IsTrueToModel (means l.world.job) (kept_by state l.world);
      written : IsWrittenTo job l.fn.merger.lines (g.W.Write.contents l.fn.writer) (g.W.Write.contents l.writer) l.written;
      least : l.written.mark ≡ least_time (map (λ x. (state x).position.clock) items);
    }

abbrev pub decreases-loop-left : goal.decreases-loop-left
decreases-loop-left g l = l.left
