use Rattle.std.proofs.Common.{refl}
use Rattle.dv_check.proofs.Computing.{link_rows}
use Rattle.dv_check.proofs.laws.ends_have_directions.Goals as goal

pub returns-clause-from_own_output : goal.returns-clause-from_own_output
unfolding link_rows
returns-clause-from_own_output c = refl

pub returns-clause-to_own_input : goal.returns-clause-to_own_input
unfolding link_rows
returns-clause-to_own_input c = refl

pub returns-clause-from_input_of_part : goal.returns-clause-from_input_of_part
unfolding link_rows
returns-clause-from_input_of_part c = refl

pub returns-clause-to_output_of_part : goal.returns-clause-to_output_of_part
unfolding link_rows
returns-clause-to_output_of_part c = refl
