use Rattle.std.proofs.Common.{refl}
use Rattle.dv_check.proofs.Computing.{atomic_rows}
use Rattle.dv_check.proofs.laws.elapsed_is_known_in_external_rules.Goals as goal

pub returns-clause-external : goal.returns-clause-external
unfolding atomic_rows
returns-clause-external c = refl

pub returns-clause-internal : goal.returns-clause-internal
unfolding atomic_rows
returns-clause-internal c = refl

pub returns-clause-confluent : goal.returns-clause-confluent
unfolding atomic_rows
returns-clause-confluent c = refl

pub returns-clause-number : goal.returns-clause-number
unfolding atomic_rows
returns-clause-number c = refl

pub returns-clause-no_type : goal.returns-clause-no_type
unfolding atomic_rows
returns-clause-no_type c = refl
