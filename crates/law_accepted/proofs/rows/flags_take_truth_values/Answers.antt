use Rattle.std.proofs.Common.{refl}
use Rattle.law_accepted.proofs.Computing.{computing}
use Rattle.law_accepted.proofs.rows.flags_take_truth_values.Goals as goal

pub returns-clause-negated : goal.returns-clause-negated
unfolding computing
returns-clause-negated c = refl

pub returns-clause-joined : goal.returns-clause-joined
unfolding computing
returns-clause-joined c = refl

pub returns-clause-number : goal.returns-clause-number
unfolding computing
returns-clause-number c = refl

pub returns-clause-negated_number : goal.returns-clause-negated_number
unfolding computing
returns-clause-negated_number c = refl

pub returns-clause-joined_number : goal.returns-clause-joined_number
unfolding computing
returns-clause-joined_number c = refl

pub returns-clause-added : goal.returns-clause-added
unfolding computing
returns-clause-added c = refl
