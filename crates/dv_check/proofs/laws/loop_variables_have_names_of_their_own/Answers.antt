use Rattle.std.proofs.Common.{refl}
use Rattle.dv_check.proofs.Computing.{atomic_rows}
use Rattle.dv_check.proofs.laws.loop_variables_have_names_of_their_own.Goals as goal

pub returns-clause-item_before : goal.returns-clause-item_before
unfolding atomic_rows
returns-clause-item_before c = refl

pub returns-clause-item_behind : goal.returns-clause-item_behind
unfolding atomic_rows
returns-clause-item_behind c = refl

pub returns-clause-loop_around : goal.returns-clause-loop_around
unfolding atomic_rows
returns-clause-loop_around c = refl

pub returns-clause-side_by_side : goal.returns-clause-side_by_side
unfolding atomic_rows
returns-clause-side_by_side c = refl
