use Rattle.dv_conservative.proofs.Turning.{waiting_clock, waiting_links}
use Rattle.dv_conservative.proofs.turn.waiting_turns_change_nothing.Goals as goal

pub returns-clause-clock : goal.returns-clause-clock
returns-clause-clock x = waiting_clock

pub returns-clause-links : goal.returns-clause-links
returns-clause-links x = waiting_links
