use Rattle.dv_core.proofs.Driving.{is_run}
use Rattle.dv_core.proofs.runs.runs_with_progress_are_runs.Goals as goal

pub returns : goal.returns
returns x = is_run
