use Rattle.dv_lex.proofs.Existence.{tokens_or_refusal}
use Rattle.dv_lex.proofs.laws.a_text_has_tokens_or_a_refusal.Goals as goal

pub returns : goal.returns
returns c = tokens_or_refusal
