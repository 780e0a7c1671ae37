use Rattle.dv_inputs.proofs.GreaterLimits.{reads_more}
use Rattle.dv_inputs.proofs.laws.a_greater_limit_reads_the_same.Goals as goal

pub returns : goal.returns
returns c = reads_more
