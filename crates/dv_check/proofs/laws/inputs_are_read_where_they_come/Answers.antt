use Rattle.std.proofs.Common.{refl}
use Rattle.dv_check.proofs.Computing.{atomic_rows}
use Rattle.dv_check.proofs.laws.inputs_are_read_where_they_come.Goals as goal

pub returns-clause-external : goal.returns-clause-external
unfolding atomic_rows
returns-clause-external c = refl

pub returns-clause-confluent : goal.returns-clause-confluent
unfolding atomic_rows
returns-clause-confluent c = refl

pub returns-clause-internal : goal.returns-clause-internal
unfolding atomic_rows
returns-clause-internal c = refl

pub returns-clause-changed : goal.returns-clause-changed
unfolding atomic_rows
returns-clause-changed c = refl
