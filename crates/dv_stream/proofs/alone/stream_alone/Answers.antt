use Rattle.std.proofs.Common.{◌∷◌, [], IfOk, OnErr, sym, ap, subst, ◌∙◌}
use Rattle.dv_board.specs.Jobs.{IsMergeable}
use Rattle.dv_text.proofs.Taking.{OnErr-always}
use Rattle.dv_stream.specs.Endings.{HasRunInRounds}
use Rattle.dv_stream.specs.Written.{IsBegun, IsWrittenTo}
use Rattle.dv_stream.proofs.Writing.{not_begun}
use Rattle.dv_stream.proofs.alone.stream_alone.Goals as goal

pub returns-in_err-world-clause-err : goal.returns-in_err-world-clause-err
returns-in_err-world-clause-err g c =
    OnErr-always _ (not_begun (g.J.PlannedJob.means c.args.job) c.args.tree.now (g.W.Write.contents c.args.writer.now))

pub run_process-requires-clause-merges : goal.run_process-requires-clause-merges
run_process-requires-clause-merges g c =
    subst (λ j. IsMergeable (g.J.PlannedJob.means j)) (sym c.in_ok-world.ensures.job) c.requires.merges

pub run_process-requires-clause-alone : goal.run_process-requires-clause-alone
run_process-requires-clause-alone g c =
    ap (λ j. (g.J.PlannedJob.means j).processes) c.in_ok-world.ensures.job ∙ sym c.requires.run.planned.count ∙ c.requires.alone

pub run_process-requires-clause-handed : goal.run_process-requires-clause-handed
run_process-requires-clause-handed g c =
    c.in_ok-world.ensures.handed ∙ ap (λ h. h ∷ []) c.requires.handed

pub returns-clause-run : goal.returns-clause-run
returns-clause-run g c =
    let bounds = c.args.bounds in
    subst (λ j. IfOk c.run_process.result (HasRunInRounds (g.J.PlannedJob.means j) bounds.capacity bounds.rounds)) c.in_ok-world.ensures.job
    (c.run_process.ensures.run bounds.capacity c.in_ok-world.ensures.fresh)

pub returns-clause-written : goal.returns-clause-written
returns-clause-written g c =
    let contents = g.W.Write.contents in
    subst (λ j. IfOk c.run_process.result (λ r. IsWrittenTo (g.J.PlannedJob.means j) c.args.tree.now
    (contents c.args.writer.now) (contents c.run_process.new.writer) r.written)) c.in_ok-world.ensures.job c.run_process.ensures.written

pub returns-clause-err : goal.returns-clause-err
returns-clause-err g c =
    let contents = g.W.Write.contents in
    subst (λ j. OnErr c.run_process.result (IsBegun (g.J.PlannedJob.means j) c.args.tree.now
    (contents c.args.writer.now) (contents c.run_process.new.writer))) c.in_ok-world.ensures.job c.run_process.ensures.err
