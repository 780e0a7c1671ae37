use Rattle.dv_conservative.proofs.Driving.{rounds_run}
use Rattle.dv_conservative.proofs.rounds.rounds_are_runs.Goals as goal

pub returns : goal.returns
returns x = rounds_run
