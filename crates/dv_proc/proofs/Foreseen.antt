-- Terms of a promise.
use Rattle.std.proofs.Common.{◌≡◌, ℕ, zero, suc, ◌+◌, ◌*◌, ◌≤◌, Bool, true, false, cond, nat_eq, List, Option, Some, None, refl}
use Rattle.std.proofs.Common.{ap, sym, ◌∙◌, subst, arith}
use Rattle.std.proofs.lemmas.Bool.Decides.{nat_tests}
use Rattle.dv_time.specs.Time.{IsOfRun, earlier, rank, tick_of, time_of}
use Rattle.dv_time.specs.declared.time.Time.{Time}
use Rattle.dv_time.proofs.Ranks.{tick_of-rank, time_of-rank}
use Rattle.dv_devs.specs.Behaviour.{Component, is_at}
use Rattle.dv_devs.specs.NextTimes.{least_next}
use Rattle.dv_conservative.specs.Promise.{foreseen, reach}
use Rattle.dv_proc.specs.Foreseeing.{IsOfRunIf, rank_if}

pub tick_at : (limit : ℕ) (t : Time) → IsOfRun limit t → tick_of limit (rank limit t) ≡ t.tick
tick_at limit t h = tick_of-rank limit t h

pub reach_ticks : (limit ticks : ℕ) (from : Time) → IsOfRun limit from → (ticks ≡ 0 → ⊥) →
    Some (rank limit (record { tick = from.tick + ticks; micro = 0 })) ≡ reach limit (rank limit from) (Some ticks)
reach_ticks limit zero from h differ = absurd (differ refl)
reach_ticks limit (suc r) from h differ =
    ap (λ (n : ℕ). let t : Time = record { tick = n + suc r; micro = 0 } in Some (rank limit t)) (sym (tick_at limit from h))

pub foreseen_now : (limit k : ℕ) (next : Option ℕ) (cs : List Component) (c : ℕ) (r : Option ℕ) → is_at k next ≡ true →
    least_next cs ≡ next → Some (suc k) ≡ foreseen limit k cs c r
foreseen_now limit k next cs c r e least = rw (least, e) refl

pub foreseen_else : (limit k : ℕ) (next : Option ℕ) (cs : List Component) (c : ℕ) (r : Option ℕ) → is_at k next ≡ false →
    least_next cs ≡ next → earlier next (reach limit c r) ≡ foreseen limit k cs c r
foreseen_else limit k next cs c r e least = rw (least, e) refl
