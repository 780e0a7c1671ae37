use Rattle.dv_lex.proofs.Refusals.{refusal_offset}
use Rattle.dv_lex.proofs.laws.refusals_have_offsets.Goals as goal

pub returns-clause-in_text : goal.returns-clause-in_text
returns-clause-in_text c = λ text r h. (refusal_offset text r.number r.offset h).0

pub returns-clause-small : goal.returns-clause-small
returns-clause-small c = λ text r h. (refusal_offset text r.number r.offset h).1
