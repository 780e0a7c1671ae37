use Rattle.dv_bag.proofs.Cuts.{before_joined, since_joined}
use Rattle.dv_bag.proofs.laws.parts.cuts_of_joined_parts.Goals as goal

pub returns-clause-before : goal.returns-clause-before
returns-clause-before c = before_joined

pub returns-clause-since : goal.returns-clause-since
returns-clause-since c = since_joined
