use Rattle.dv_check.proofs.Order.{first_contained, first_least, none_first}
use Rattle.dv_check.proofs.laws.first_refusal_is_the_least.Goals as goal

pub returns-clause-contained : goal.returns-clause-contained
returns-clause-contained c = first_contained

pub returns-clause-least : goal.returns-clause-least
returns-clause-least c = first_least

pub returns-clause-none : goal.returns-clause-none
returns-clause-none c = none_first
