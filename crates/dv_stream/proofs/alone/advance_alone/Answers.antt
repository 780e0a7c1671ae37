use Rattle.std.proofs.Common.{map, sym, subst, ◌∙◌}
use Rattle.dv_board.specs.Jobs.{IsMergeable}
use Rattle.dv_conservative.specs.World.{World}
use Rattle.dv_core.specs.Worlds.{EndsAs, shown}
use Rattle.dv_text.proofs.Taking.{OnErr-always}
use Rattle.dv_stream.specs.Alone.{Breaks, Continues, HasHandedTo}
use Rattle.dv_stream.proofs.alone.advance_alone.Goals as goal

pub write_told-requires-clause-merges : goal.write_told-requires-clause-merges
write_told-requires-clause-merges g c =
    subst (λ j. IsMergeable (g.J.PlannedJob.means j)) (sym c.serial-ended.ensures.job) c.requires.merges

pub write_told-requires-clause-handed : goal.write_told-requires-clause-handed
write_told-requires-clause-handed g c =
    let means = g.J.PlannedJob.means in
    subst (λ j. HasHandedTo (means j) c.args.tree.now c.args.before
    (map g.P.LogicalProcess.handed c.serial-ended.new.self.processes.items)) (sym c.serial-ended.ensures.job)
    (c.serial-ended.ensures.handed ∙ c.requires.handed)

pub returns-in_err-written-clause-err : goal.returns-in_err-written-clause-err
returns-in_err-written-clause-err g c =
    OnErr-always _ (subst (λ j. Breaks (g.J.PlannedJob.means j) c.args.tree.now (g.W.Write.contents c.args.writer.now)
    (g.W.Write.contents c.write_told.new.writer) c.args.before) c.serial-ended.ensures.job c.in_err-written.ensures.err)

pub returns-clause-rounds : goal.returns-clause-rounds
returns-clause-rounds g c =
    let means = g.J.PlannedJob.means in
    let state = g.P.LogicalProcess.state in
    subst (λ (v : World). EndsAs (means c.args.world.now.job) c.args.rounds c.serial-ended.result (shown means state c.args.world.now) v)
    (sym c.write_told.ensures.shown) c.serial-ended.ensures.rounds

pub returns-clause-ok : goal.returns-clause-ok
returns-clause-ok g c =
    subst (λ j. Continues (g.J.PlannedJob.means j) c.args.tree.now (g.W.Write.contents c.args.writer.now)
    (g.W.Write.contents c.write_told.new.writer) c.args.before c.in_ok-written.written) c.serial-ended.ensures.job
    c.in_ok-written.ensures.ok

pub returns-clause-handed : goal.returns-clause-handed
returns-clause-handed g c =
    subst (λ j. HasHandedTo (g.J.PlannedJob.means j) c.args.tree.now c.in_ok-written.written
    (map g.P.LogicalProcess.handed c.write_told.new.world.processes.items)) c.serial-ended.ensures.job c.in_ok-written.ensures.handed
