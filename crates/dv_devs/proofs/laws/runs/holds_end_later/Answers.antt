use Rattle.dv_devs.proofs.NextTimes.{begun_is_later}
use Rattle.dv_devs.proofs.laws.runs.holds_end_later.Goals as goal

pub returns : goal.returns
returns c = begun_is_later
