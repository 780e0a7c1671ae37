use Rattle.dv_gen.proofs.Over.{programs_over}
use Rattle.dv_gen.proofs.laws.programs_stand_over_their_tables.Goals as goal

pub returns : goal.returns
returns c = programs_over
