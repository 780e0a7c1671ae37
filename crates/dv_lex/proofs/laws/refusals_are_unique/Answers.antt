use Rattle.dv_lex.proofs.Refusals.{refusal_unique}
use Rattle.dv_lex.proofs.laws.refusals_are_unique.Goals as goal

pub returns : goal.returns
returns c = refusal_unique
