use Rattle.std.proofs.Common.{◌≡◌, map}
use Rattle.dv_core.specs.Worlds.{kept_by}
use Rattle.dv_stream.specs.Rounds.{AreJoined}
use Rattle.dv_stream.proofs.Joining.{AreAtFirst}
use Rattle.dv_stream.proofs.rounds.join_each.Given as goal

abbrev pub invariant-loop-process : goal.invariant-loop-process
invariant-loop-process g l =
    let state = g.P.LogicalProcess.state in
    let items = l.world.processes.items in
    record {
      job : l.world.job ≡ l.fn.world.job;
      kept : kept_by state l.world ≡ kept_by state l.fn.world;
      mark : l.backlog.mark ≡ l.fn.backlog.mark;
      joined : AreJoined g.N.OfJob.job (map state items) (map g.P.LogicalProcess.handed items) l.backlog.clocks;
      first : AreAtFirst (map state items) l.backlog.clocks l.process;
    }
