use Rattle.dv_bag.proofs.Monoid.{size_0, size_union, total_union_small}
use Rattle.dv_bag.proofs.laws.bags.sizes_add.Goals as goal

pub returns-clause-size : goal.returns-clause-size
returns-clause-size c = size_union

pub returns-clause-total : goal.returns-clause-total
returns-clause-total c = total_union_small

pub returns-clause-none : goal.returns-clause-none
returns-clause-none c = size_0
