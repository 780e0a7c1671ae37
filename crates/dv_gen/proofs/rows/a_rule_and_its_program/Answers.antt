use Rattle.std.proofs.Common.{pos, refl, arith}
use Rattle.dv_gen.proofs.rows.a_rule_and_its_program.Goals as goal

pub returns-clause-typed : goal.returns-clause-typed
returns-clause-typed c = (
  omega arith,
  (omega arith, refl),
  (
    refl,
    (refl, refl, refl, (refl, refl, omega arith, (pos 0, pos 100, refl))),
    (((2, refl), refl), refl, omega arith, tt),
    ((pos 0, pos 100, refl, refl), refl, (refl, refl, (pos 0, pos 100, refl), omega arith), tt),
    tt,
  ),
  ((omega arith, refl), tt),
)
