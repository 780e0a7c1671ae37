use Rattle.std.proofs.Common.{refl}
use Rattle.law_accepted.proofs.Computing.{computing}
use Rattle.law_accepted.proofs.rows.unknown_ends_are_not_repeated.Goals as goal

pub returns : goal.returns
unfolding computing
returns c = refl
