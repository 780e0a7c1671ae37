use Rattle.dv_inputs.proofs.Spellings.{tick_printed, value_printed}
use Rattle.dv_inputs.proofs.Times.{time_printed}
use Rattle.dv_inputs.proofs.laws.numbers_are_read_as_printed.Goals as goal

pub returns-clause-tick : goal.returns-clause-tick
returns-clause-tick c = tick_printed

pub returns-clause-time : goal.returns-clause-time
returns-clause-time c = time_printed

pub returns-clause-value : goal.returns-clause-value
returns-clause-value c = value_printed
