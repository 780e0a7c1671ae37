use Rattle.dv_bag.proofs.Monoid.{copies_capped, copies_either, copies_join}
use Rattle.dv_bag.proofs.laws.bags.copies_commute_and_join.Goals as goal

pub returns-clause-either : goal.returns-clause-either
returns-clause-either c = copies_either

pub returns-clause-joined : goal.returns-clause-joined
returns-clause-joined c = copies_join

pub returns-clause-capped : goal.returns-clause-capped
returns-clause-capped c = copies_capped
