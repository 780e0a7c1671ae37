use Rattle.dv_inputs.proofs.Ranges.{of_run}
use Rattle.dv_inputs.proofs.laws.inputs_are_within_the_limit.Goals as goal

pub returns : goal.returns
returns c = of_run
