use Rattle.dv_devs.proofs.Cuts.{counted_rise}
use Rattle.dv_devs.proofs.laws.parts.counted_numbers_rise.Goals as goal

pub returns : goal.returns
returns c count = counted_rise 0 count
