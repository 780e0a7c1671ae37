use Rattle.dv_text.proofs.Taking.{OnErr-always}
use Rattle.dv_stream.proofs.Writing.{not_begun}
use Rattle.dv_stream.proofs.planned.stream_with_records.Goals as goal

pub returns-in_err-crew-clause-err : goal.returns-in_err-crew-clause-err
returns-in_err-crew-clause-err g c =
    OnErr-always _ (not_begun (g.J.PlannedJob.means c.args.job.now) c.args.words.now (g.W.Write.contents c.args.writer.now))
