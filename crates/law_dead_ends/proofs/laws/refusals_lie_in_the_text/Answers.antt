use Rattle.law_dead_ends.proofs.DeadEnds.{within_text}
use Rattle.law_dead_ends.proofs.laws.refusals_lie_in_the_text.Goals as goal

pub returns : goal.returns
returns c = within_text
