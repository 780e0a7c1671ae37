use Rattle.std.proofs.Common.{pos, refl, arith}
use Rattle.dv_gen.proofs.rows.a_rule_over_a_queue.Goals as goal

pub returns-clause-typed : goal.returns-clause-typed
returns-clause-typed c = (
  omega arith,
  (omega arith, refl),
  (((3, refl), refl), refl, omega arith, tt),
  (
    (pos 0, pos 999, refl, refl),
    refl,
    (3, refl),
    (
      ((3, refl), refl),
      (
        omega arith,
        (3, refl),
        (
          (pos 0, pos 999, refl, refl),
          refl,
          (refl, refl, (refl, refl, (pos 0, pos 999, refl), tt), omega arith),
          (((3, refl), refl), tt),
        ),
        ((omega arith, refl), tt),
      ),
    ),
  ),
)
