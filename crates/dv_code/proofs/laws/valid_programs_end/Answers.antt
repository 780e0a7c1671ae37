use Rattle.dv_code.proofs.Endings.{ends_within}
use Rattle.dv_code.proofs.laws.valid_programs_end.Goals as goal

pub returns : goal.returns
returns c p left depth valid small arrivals few s fits = ends_within p.shape arrivals left depth p.code valid (small, few) s fits
