use Rattle.law_dead_ends.proofs.DeadEnds.{one_first, one_offset, none_at_end}
use Rattle.law_dead_ends.proofs.laws.a_first_wrong_token_is_one.Goals as goal

pub returns-clause-front : goal.returns-clause-front
returns-clause-front c = one_first

pub returns-clause-offset : goal.returns-clause-offset
returns-clause-offset c = one_offset

pub returns-clause-none : goal.returns-clause-none
returns-clause-none c = none_at_end
