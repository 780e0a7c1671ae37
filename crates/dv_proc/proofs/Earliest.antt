-- The earlier of two times has the lesser of their ranks, and is one of the run where both are.
use Rattle.std.proofs.Common.{◌≡◌, ℕ, ◌<◌, ◌≤◌, Bool, true, false, cond, nat_lt, Option, Some, None, min, refl, sym, ap, arith}
use Rattle.dv_time.specs.Time.{IsOfRun, earlier, earliest, is_before, rank}
use Rattle.dv_time.specs.declared.time.Time.{Time}
use Rattle.dv_time.proofs.Ranks.{is_before-rank}
use Rattle.dv_proc.specs.Foreseeing.{IsOfRunIf, rank_if}

by_test : (b : Bool) (limit : ℕ) (t u : Time) → b ≡ nat_lt (rank limit u) (rank limit t)
    → rank_if limit (cond b (Some u) (Some t)) ≡ Some (min (rank limit t) (rank limit u))
by_test true limit t u e = let lt : rank limit u < rank limit t = grind (arith, sym e) in ap Some (omega arith)
by_test false limit t u e = let le : rank limit t ≤ rank limit u = grind (arith, sym e) in ap Some (omega arith)

pub earliest_rank : (limit : ℕ) (a b : Option Time) → IsOfRunIf limit a → IsOfRunIf limit b
    → rank_if limit (earliest a b) ≡ earlier (rank_if limit a) (rank_if limit b)
earliest_rank limit None b h k = refl
earliest_rank limit (Some t) None h k = refl
earliest_rank limit (Some t) (Some u) h k = by_test (is_before u t) limit t u (is_before-rank limit u t k h)

either : (b : Bool) (limit : ℕ) (t u : Time) → IsOfRun limit t → IsOfRun limit u → IsOfRunIf limit (cond b (Some u) (Some t))
either true limit t u h k = k
either false limit t u h k = h

pub earliest_of_run : (limit : ℕ) (a b : Option Time) → IsOfRunIf limit a → IsOfRunIf limit b → IsOfRunIf limit (earliest a b)
earliest_of_run limit None b h k = k
earliest_of_run limit (Some t) None h k = h
earliest_of_run limit (Some t) (Some u) h k = either (is_before u t) limit t u h k
