use Rattle.dv_inputs.proofs.Ranges.{of_ports}
use Rattle.dv_inputs.proofs.laws.inputs_are_at_ports.Goals as goal

pub returns : goal.returns
returns c = of_ports
