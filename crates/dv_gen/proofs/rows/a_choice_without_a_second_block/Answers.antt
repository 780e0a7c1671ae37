use Rattle.std.proofs.Common.{pos, refl, arith}
use Rattle.dv_gen.proofs.rows.a_choice_without_a_second_block.Goals as goal

pub returns-clause-typed : goal.returns-clause-typed
returns-clause-typed c = (refl, refl, ((pos 0, pos 100, refl, refl), refl, tt, tt), ((omega arith, refl), tt))
