use Rattle.std.proofs.Common.{refl}
use Rattle.dv_check.proofs.Computing.{atomic_rows}
use Rattle.dv_check.proofs.laws.queues_are_empty_at_the_start.Goals as goal

pub returns-clause-sized : goal.returns-clause-sized
unfolding atomic_rows
returns-clause-sized c = refl

pub returns-clause-front : goal.returns-clause-front
unfolding atomic_rows
returns-clause-front c = refl
