use Rattle.std.proofs.Common.{refl}
use Rattle.dv_check.proofs.Computing.{atomic_rows}
use Rattle.dv_check.proofs.laws.loop_variables_are_known_in_their_blocks.Goals as goal

pub returns-clause-not_in_front : goal.returns-clause-not_in_front
unfolding atomic_rows
returns-clause-not_in_front c = refl

pub returns-clause-bag_of_the_name : goal.returns-clause-bag_of_the_name
unfolding atomic_rows
returns-clause-bag_of_the_name c = refl

pub returns-clause-added : goal.returns-clause-added
unfolding atomic_rows
returns-clause-added c = refl

pub returns-clause-not_behind : goal.returns-clause-not_behind
unfolding atomic_rows
returns-clause-not_behind c = refl

pub returns-clause-assigned : goal.returns-clause-assigned
unfolding atomic_rows
returns-clause-assigned c = refl

pub returns-clause-assigned_outside : goal.returns-clause-assigned_outside
unfolding atomic_rows
returns-clause-assigned_outside c = refl
