use Rattle.std.proofs.Common.{refl}
use Rattle.dv_check.proofs.Computing.{cycle_rows, link_rows}
use Rattle.dv_check.proofs.laws.no_model_contains_itself.Goals as goal

pub returns-clause-itself : goal.returns-clause-itself
unfolding cycle_rows link_rows
returns-clause-itself c = refl

pub returns-clause-each_other : goal.returns-clause-each_other
unfolding cycle_rows
returns-clause-each_other c = refl

pub returns-clause-leads_to_one : goal.returns-clause-leads_to_one
unfolding cycle_rows
returns-clause-leads_to_one c = refl

pub returns-clause-twice_inside : goal.returns-clause-twice_inside
unfolding cycle_rows
returns-clause-twice_inside c = refl
