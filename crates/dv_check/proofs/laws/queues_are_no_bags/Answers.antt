use Rattle.std.proofs.Common.{refl}
use Rattle.dv_check.proofs.Computing.{atomic_rows}
use Rattle.dv_check.proofs.laws.queues_are_no_bags.Goals as goal

pub returns-clause-pushed : goal.returns-clause-pushed
unfolding atomic_rows
returns-clause-pushed c = refl

pub returns-clause-sized : goal.returns-clause-sized
unfolding atomic_rows
returns-clause-sized c = refl

pub returns-clause-walked : goal.returns-clause-walked
unfolding atomic_rows
returns-clause-walked c = refl

pub returns-clause-added : goal.returns-clause-added
unfolding atomic_rows
returns-clause-added c = refl

pub returns-clause-summed : goal.returns-clause-summed
unfolding atomic_rows
returns-clause-summed c = refl

pub returns-clause-counted : goal.returns-clause-counted
unfolding atomic_rows
returns-clause-counted c = refl

pub returns-clause-pushed_to_a_bag : goal.returns-clause-pushed_to_a_bag
unfolding atomic_rows
returns-clause-pushed_to_a_bag c = refl

pub returns-clause-popped_from_a_bag : goal.returns-clause-popped_from_a_bag
unfolding atomic_rows
returns-clause-popped_from_a_bag c = refl

pub returns-clause-front_of_a_bag : goal.returns-clause-front_of_a_bag
unfolding atomic_rows
returns-clause-front_of_a_bag c = refl

pub returns-clause-front_of_a_port : goal.returns-clause-front_of_a_port
unfolding atomic_rows
returns-clause-front_of_a_port c = refl

pub returns-clause-unknown : goal.returns-clause-unknown
unfolding atomic_rows
returns-clause-unknown c = refl
