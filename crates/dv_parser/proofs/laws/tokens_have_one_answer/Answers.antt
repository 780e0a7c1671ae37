use Rattle.dv_parser.proofs.OneAnswer.{one_answer, not_both}
use Rattle.dv_parser.proofs.laws.tokens_have_one_answer.Goals as goal

pub returns-clause-some : goal.returns-clause-some
returns-clause-some c = one_answer

pub returns-clause-not_both : goal.returns-clause-not_both
returns-clause-not_both c = not_both
