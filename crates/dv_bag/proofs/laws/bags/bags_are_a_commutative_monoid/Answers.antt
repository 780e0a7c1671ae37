use Rattle.dv_bag.proofs.Monoid.{union_assoc, union_bag, union_comm, union_unit}
use Rattle.dv_bag.proofs.laws.bags.bags_are_a_commutative_monoid.Goals as goal

pub returns-clause-bag : goal.returns-clause-bag
returns-clause-bag c = union_bag

pub returns-clause-unit_left : goal.returns-clause-unit_left
returns-clause-unit_left c = union_unit

pub returns-clause-commutative : goal.returns-clause-commutative
returns-clause-commutative c = union_comm

pub returns-clause-associative : goal.returns-clause-associative
returns-clause-associative c = union_assoc
