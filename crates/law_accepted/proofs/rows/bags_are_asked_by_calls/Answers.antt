use Rattle.std.proofs.Common.{refl}
use Rattle.law_accepted.proofs.Computing.{computing}
use Rattle.law_accepted.proofs.rows.bags_are_asked_by_calls.Goals as goal

pub returns-clause-size : goal.returns-clause-size
unfolding computing
returns-clause-size c = refl

pub returns-clause-times : goal.returns-clause-times
unfolding computing
returns-clause-times c = refl

pub returns-clause-alone : goal.returns-clause-alone
unfolding computing
returns-clause-alone c = refl

pub returns-clause-of_a_variable : goal.returns-clause-of_a_variable
unfolding computing
returns-clause-of_a_variable c = refl

pub returns-clause-unknown : goal.returns-clause-unknown
unfolding computing
returns-clause-unknown c = refl

pub returns-clause-of_a_truth_value : goal.returns-clause-of_a_truth_value
unfolding computing
returns-clause-of_a_truth_value c = refl

pub returns-clause-negated : goal.returns-clause-negated
unfolding computing
returns-clause-negated c = refl
