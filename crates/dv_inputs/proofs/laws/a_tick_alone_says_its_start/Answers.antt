use Rattle.dv_inputs.proofs.Times.{tick_alone}
use Rattle.dv_inputs.proofs.laws.a_tick_alone_says_its_start.Goals as goal

pub returns : goal.returns
returns c = tick_alone
