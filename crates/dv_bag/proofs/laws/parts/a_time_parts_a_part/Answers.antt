use Rattle.dv_bag.proofs.Cuts.{before_both, nothing_before, nothing_since, parted}
use Rattle.dv_bag.proofs.laws.parts.a_time_parts_a_part.Goals as goal

pub returns-clause-together : goal.returns-clause-together
returns-clause-together c = parted

pub returns-clause-none_since : goal.returns-clause-none_since
returns-clause-none_since c = nothing_since

pub returns-clause-none_before : goal.returns-clause-none_before
returns-clause-none_before c = nothing_before

pub returns-clause-sooner : goal.returns-clause-sooner
returns-clause-sooner c = before_both
