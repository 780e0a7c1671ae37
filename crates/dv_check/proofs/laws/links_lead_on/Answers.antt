use Rattle.std.proofs.Common.{refl}
use Rattle.dv_check.proofs.Computing.{link_rows}
use Rattle.dv_check.proofs.laws.links_lead_on.Goals as goal

pub returns-clause-between : goal.returns-clause-between
unfolding link_rows
returns-clause-between c = refl

pub returns-clause-entry : goal.returns-clause-entry
unfolding link_rows
returns-clause-entry c = refl

pub returns-clause-exit : goal.returns-clause-exit
unfolding link_rows
returns-clause-exit c = refl

pub returns-clause-part_to_itself : goal.returns-clause-part_to_itself
unfolding link_rows
returns-clause-part_to_itself c = refl

pub returns-clause-through : goal.returns-clause-through
unfolding link_rows
returns-clause-through c = refl
