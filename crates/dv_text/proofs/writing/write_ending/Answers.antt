use Rattle.dv_text.specs.Texts.{ending_text}
use Rattle.dv_text.proofs.Endings.{ending-some}
use Rattle.dv_text.proofs.Taking.{OnErr-always, StopsShort-from, TakesFront-nothing}
use Rattle.dv_text.proofs.writing.write_ending.Goals as goal

pub returns-in_err-push_end-clause-err : goal.returns-in_err-push_end-clause-err
returns-in_err-push_end-clause-err g c =
    let text = ending_text c.args.ending.now in
    OnErr-always _ (StopsShort-from (TakesFront-nothing (g.W.Write.contents c.args.writer.now) text) (ending-some c.args.ending.now))
