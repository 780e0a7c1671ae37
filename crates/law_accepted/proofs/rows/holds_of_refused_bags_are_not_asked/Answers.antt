use Rattle.std.proofs.Common.{refl}
use Rattle.law_accepted.proofs.Computing.{computing}
use Rattle.law_accepted.proofs.rows.holds_of_refused_bags_are_not_asked.Goals as goal

pub returns-clause-asked : goal.returns-clause-asked
unfolding computing
returns-clause-asked c = refl

pub returns-clause-not_asked : goal.returns-clause-not_asked
unfolding computing
returns-clause-not_asked c = refl
