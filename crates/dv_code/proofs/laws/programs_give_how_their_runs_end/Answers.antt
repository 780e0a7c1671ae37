use Rattle.dv_code.proofs.Outcomes.{ended, outcome}
use Rattle.dv_code.proofs.laws.programs_give_how_their_runs_end.Goals as goal

pub returns-clause-ended : goal.returns-clause-ended
returns-clause-ended c p safe arrivals few s fits = ended p arrivals s safe few fits

pub returns-clause-outcome : goal.returns-clause-outcome
returns-clause-outcome c p safe arrivals few s fits n end is over = outcome p arrivals s safe few fits n end is over
