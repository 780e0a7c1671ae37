use Rattle.std.proofs.Common.{refl}
use Rattle.law_accepted.proofs.Computing.{computing}
use Rattle.law_accepted.proofs.rows.a_clock_is_accepted.Goals as goal

pub returns : goal.returns
unfolding computing
returns c = refl
