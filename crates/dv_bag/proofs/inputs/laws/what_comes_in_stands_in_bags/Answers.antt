use Rattle.dv_bag.proofs.InputBags.{bags_come_in}
use Rattle.dv_bag.proofs.inputs.laws.what_comes_in_stands_in_bags.Goals as goal

pub returns : goal.returns
returns c = bags_come_in
