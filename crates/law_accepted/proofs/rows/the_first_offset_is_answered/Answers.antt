use Rattle.std.proofs.Common.{refl}
use Rattle.law_accepted.proofs.Computing.{computing}
use Rattle.law_accepted.proofs.rows.the_first_offset_is_answered.Goals as goal

pub returns : goal.returns
unfolding computing
returns c = refl
