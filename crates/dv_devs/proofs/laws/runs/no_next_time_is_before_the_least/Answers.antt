use Rattle.dv_devs.proofs.NextTimes.{least_from}
use Rattle.dv_devs.proofs.Stretches.{all_from, none_imminent_before}
use Rattle.dv_devs.proofs.laws.runs.no_next_time_is_before_the_least.Goals as goal

pub returns-clause-all : goal.returns-clause-all
returns-clause-all c = all_from

pub returns-clause-least : goal.returns-clause-least
returns-clause-least c = least_from

pub returns-clause-none : goal.returns-clause-none
returns-clause-none c = none_imminent_before
