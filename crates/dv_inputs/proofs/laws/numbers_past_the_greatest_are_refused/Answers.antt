use Rattle.dv_inputs.proofs.Times.{micro_above, tick_above}
use Rattle.dv_inputs.proofs.laws.numbers_past_the_greatest_are_refused.Goals as goal

pub returns-clause-tick : goal.returns-clause-tick
returns-clause-tick c = tick_above

pub returns-clause-microstep : goal.returns-clause-microstep
returns-clause-microstep c = micro_above
