use Rattle.dv_conservative.proofs.Later.{known_at}
use Rattle.dv_conservative.proofs.process.inputs_are_known_until_the_first.Goals as goal

pub returns : goal.returns
returns c = known_at
