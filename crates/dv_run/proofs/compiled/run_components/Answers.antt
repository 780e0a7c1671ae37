use Rattle.dv_run.specs.Texts.{text_job}
use Rattle.dv_stream.proofs.Writing.{not_begun}
use Rattle.dv_text.proofs.Taking.{OnErr-always}
use Rattle.dv_run.proofs.Traces.{enough_of}
use Rattle.dv_run.proofs.compiled.run_components.Goals as goal

pub returns-in_err-plan-clause-err : goal.returns-in_err-plan-clause-err
returns-in_err-plan-clause-err g c =
    OnErr-always _ (not_begun (text_job c.args.job.now) c.args.job.now.tree.now (g.W.Write.contents c.args.writer.now))

pub returns-clause-enough : goal.returns-clause-enough
returns-clause-enough g c =
    enough_of c.args.job.now c.args.bounds.capacity c.args.bounds.rounds c.in_ok-plan.ensures.run.ends c.stream_plan.result
    c.stream_plan.ensures.run
