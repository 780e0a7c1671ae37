use Rattle.dv_lex.proofs.Refusals.{not_refused}
use Rattle.dv_lex.proofs.laws.tokens_or_refused.Goals as goal

pub returns : goal.returns
returns c = λ text names tokens e t r. not_refused text names tokens t e.number e.offset r
