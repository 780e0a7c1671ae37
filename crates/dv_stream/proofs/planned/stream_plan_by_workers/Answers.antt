use Rattle.std.proofs.Common.{subst}
use Rattle.std.specs.Prelude.{IfOk, OnErr}
use Rattle.dv_text.proofs.Taking.{OnErr-always}
use Rattle.dv_stream.specs.Written.{IsBegun, IsWrittenTo}
use Rattle.dv_stream.proofs.Writing.{not_begun}
use Rattle.dv_stream.proofs.planned.stream_plan_by_workers.Goals as goal

pub returns-in_err-words-clause-err : goal.returns-in_err-words-clause-err
returns-in_err-words-clause-err g c =
    OnErr-always _ (not_begun (g.J.PlannedJob.means c.args.job.now) c.args.tree.now (g.W.Write.contents c.args.writer.now))

pub returns-clause-written : goal.returns-clause-written
returns-clause-written g c =
    let contents = g.W.Write.contents in
    subst (λ t. IfOk c.stream_with_words.result (λ w. IsWrittenTo (g.J.PlannedJob.means c.args.job.now) t
    (contents c.args.writer.now) (contents c.stream_with_words.new.writer) w.ran.written)) c.in_ok-words.ensures
    c.stream_with_words.ensures.written

pub returns-clause-err : goal.returns-clause-err
returns-clause-err g c =
    let contents = g.W.Write.contents in
    subst (λ t. OnErr c.stream_with_words.result (IsBegun (g.J.PlannedJob.means c.args.job.now) t
    (contents c.args.writer.now) (contents c.stream_with_words.new.writer))) c.in_ok-words.ensures
    c.stream_with_words.ensures.err
