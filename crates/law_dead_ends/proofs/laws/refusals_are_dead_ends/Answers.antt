use Rattle.law_dead_ends.proofs.DeadEnds.{dead_end}
use Rattle.law_dead_ends.proofs.laws.refusals_are_dead_ends.Goals as goal

pub returns : goal.returns
returns c = dead_end
