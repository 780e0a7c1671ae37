use Rattle.std.proofs.Common.{length}
use Rattle.dv_text.specs.Writing.{TakesFront}
use Rattle.dv_text.proofs.handing.hand_over.Given as goal

abbrev pub invariant-loop-rest : goal.invariant-loop-rest
invariant-loop-rest g l = TakesFront (g.W.Write.contents l.initial.writer) (g.W.Write.contents l.writer) l.piece l.rest

abbrev pub decreases-loop-rest : goal.decreases-loop-rest
decreases-loop-rest g l = length l.rest
