use Rattle.dv_bag.proofs.Pairs.{with_copies_bag, without_one_bag}
use Rattle.dv_bag.proofs.laws.bags.edits_leave_bags.Goals as goal

pub returns-clause-more : goal.returns-clause-more
returns-clause-more c = with_copies_bag

pub returns-clause-less : goal.returns-clause-less
returns-clause-less c = without_one_bag
