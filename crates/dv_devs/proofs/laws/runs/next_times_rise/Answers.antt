use Rattle.dv_devs.proofs.NextTimes.{instant_rises, least_next_at, next_times_at, quiet_at, matched_at}
use Rattle.dv_devs.proofs.laws.runs.next_times_rise.Goals as goal

pub returns-clause-after_an_instant : goal.returns-clause-after_an_instant
returns-clause-after_an_instant g c = instant_rises

pub returns-clause-in_a_run : goal.returns-clause-in_a_run
returns-clause-in_a_run g c = next_times_at

pub returns-clause-quiet : goal.returns-clause-quiet
returns-clause-quiet g c = quiet_at

pub returns-clause-matched : goal.returns-clause-matched
returns-clause-matched g c = matched_at

pub returns-clause-least : goal.returns-clause-least
returns-clause-least g c = least_next_at
