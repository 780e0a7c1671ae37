use Rattle.std.proofs.Common.{refl}
use Rattle.dv_check.proofs.Computing.{atomic_rows}
use Rattle.dv_check.proofs.laws.capacities_have_bounds.Goals as goal

pub returns-clause-nothing : goal.returns-clause-nothing
unfolding atomic_rows
returns-clause-nothing c = refl

pub returns-clause-one : goal.returns-clause-one
unfolding atomic_rows
returns-clause-one c = refl

pub returns-clause-greatest : goal.returns-clause-greatest
unfolding atomic_rows
returns-clause-greatest c = refl

pub returns-clause-too_great : goal.returns-clause-too_great
unfolding atomic_rows
returns-clause-too_great c = refl

pub returns-clause-queue_too_great : goal.returns-clause-queue_too_great
unfolding atomic_rows
returns-clause-queue_too_great c = refl
