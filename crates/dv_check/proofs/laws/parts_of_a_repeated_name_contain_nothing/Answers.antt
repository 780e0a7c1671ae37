use Rattle.std.proofs.Common.{refl}
use Rattle.dv_check.proofs.Computing.{cycle_rows, link_rows}
use Rattle.dv_check.proofs.laws.parts_of_a_repeated_name_contain_nothing.Goals as goal

pub returns-clause-second_leads_back : goal.returns-clause-second_leads_back
unfolding cycle_rows link_rows
returns-clause-second_leads_back c = refl

pub returns-clause-first_leads_back : goal.returns-clause-first_leads_back
unfolding cycle_rows link_rows
returns-clause-first_leads_back c = refl
