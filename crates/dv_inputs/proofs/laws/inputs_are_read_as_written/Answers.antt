use Rattle.dv_inputs.proofs.Printing.{read_as_written}
use Rattle.dv_inputs.proofs.laws.inputs_are_read_as_written.Goals as goal

pub returns : goal.returns
returns c = read_as_written
