use Rattle.dv_bag.proofs.Monoid.{count_union, count_with_other, count_with_same, count_without_other, count_without_same}
use Rattle.dv_bag.proofs.Monoid.{same_counts_same_bag}
use Rattle.dv_bag.proofs.laws.bags.bags_are_their_counts.Goals as goal

pub returns-clause-equal : goal.returns-clause-equal
returns-clause-equal c = same_counts_same_bag

pub returns-clause-more : goal.returns-clause-more
returns-clause-more c = count_with_same

pub returns-clause-more_others : goal.returns-clause-more_others
returns-clause-more_others c = count_with_other

pub returns-clause-less : goal.returns-clause-less
returns-clause-less c = count_without_same

pub returns-clause-less_others : goal.returns-clause-less_others
returns-clause-less_others c = count_without_other

pub returns-clause-both : goal.returns-clause-both
returns-clause-both c = count_union
