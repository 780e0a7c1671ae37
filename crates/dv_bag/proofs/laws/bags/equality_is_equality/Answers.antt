use Rattle.dv_bag.specs.Same.{same_bag-decides, same_bags-decides, same_variables-decides}
use Rattle.dv_bag.proofs.laws.bags.equality_is_equality.Goals as goal

pub returns-clause-bag : goal.returns-clause-bag
returns-clause-bag c = same_bag-decides

pub returns-clause-bags : goal.returns-clause-bags
returns-clause-bags c = same_bags-decides

pub returns-clause-variables : goal.returns-clause-variables
returns-clause-variables c = same_variables-decides
