use Rattle.std.proofs.Common.{refl}
use Rattle.dv_check.proofs.Computing.{link_rows}
use Rattle.dv_check.proofs.laws.coupled_parts_show_their_ports.Goals as goal

pub returns-clause-to_its_input : goal.returns-clause-to_its_input
unfolding link_rows
returns-clause-to_its_input c = refl

pub returns-clause-from_its_output : goal.returns-clause-from_its_output
unfolding link_rows
returns-clause-from_its_output c = refl

pub returns-clause-to_its_output : goal.returns-clause-to_its_output
unfolding link_rows
returns-clause-to_its_output c = refl

pub returns-clause-from_its_input : goal.returns-clause-from_its_input
unfolding link_rows
returns-clause-from_its_input c = refl
