use Rattle.dv_run.specs.Texts.{text_job}
use Rattle.dv_stream.proofs.Writing.{not_begun}
use Rattle.dv_text.proofs.Taking.{OnErr-always}
use Rattle.dv_run.proofs.workers.work_components.Goals as goal

pub returns-in_err-plan-clause-err : goal.returns-in_err-plan-clause-err
returns-in_err-plan-clause-err g c =
    OnErr-always _ (not_begun (text_job c.args.job.now) c.args.job.now.tree.now (g.W.Write.contents c.args.writer.now))
