use Rattle.dv_text.proofs.Taking.{TakesFront-then, TakesFront-write}
use Rattle.dv_text.proofs.handing.hand_over.Goals as goal

pub loop-rest-preserved : goal.loop-rest-preserved
loop-rest-preserved g c =
    rw c.split_at.ensures.back
    (TakesFront-then c.loop-rest.invariant (TakesFront-write c.loop-rest.rest.now c.in-Ok.count c.in-Ok.ensures.bytes))
