use Rattle.dv_gen.proofs.EqualEffects.{holds_agree, rules_agree}
use Rattle.dv_gen.proofs.laws.indices_mean_what_names_mean.Goals as goal

pub returns-clause-rules : goal.returns-clause-rules
returns-clause-rules c = rules_agree

pub returns-clause-holds : goal.returns-clause-holds
returns-clause-holds c = holds_agree
