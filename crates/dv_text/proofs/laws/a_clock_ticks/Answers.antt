use Rattle.std.proofs.Common.{refl}
use Rattle.std.specs.Fmt.{digits}
use Rattle.dv_text.proofs.laws.a_clock_ticks.Goals as goal

pub returns : goal.returns
unfolding digits
returns c = refl
