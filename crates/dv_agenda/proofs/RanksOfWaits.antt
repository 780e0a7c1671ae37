-- Waits by their ranks.
use Rattle.std.proofs.Common.{◌≡◌, inl, inr, ℕ, ◌+◌, ◌*◌, min, nat_eq, List, [], ◌∷◌, Option, Some, None, refl, sym, ap, subst, arith, ◌∙◌}
use Rattle.std.proofs.lemmas.Bool.{cases_eq, cases_lt}
use Rattle.std.proofs.lemmas.Bool.Decides.{nat_tests}
use Rattle.dv_time.proofs.Ranks.{micro_of-rank, tick_of-rank}
use Rattle.dv_time.specs.Time.{IsOfRun, earlier, earliest, micro_of, rank, tick_of, time_of}
use Rattle.dv_time.specs.declared.time.Time.{Time}
use Rattle.dv_devs.specs.Behaviour.{Component, is_at}
use Rattle.dv_devs.specs.NextTimes.{least_next}
use Rattle.dv_agenda.specs.NextWaits.{AreNextTimes, IsWaitOfRun, rank_if}
use Rattle.dv_agenda.specs.Waits.{ends_at, first_of, same_time}
use Rattle.dv_agenda.proofs.OrderOfWaits.{before, not_after}

earlier_times : (limit : ℕ) (t u : Time) → IsOfRun limit t → IsOfRun limit u
    → rank_if limit (earliest (Some t) (Some u)) ≡ Some (min (rank limit t) (rank limit u))
earlier_times limit t u h k = elim (cases_lt (rank limit u) (rank limit t)) [
  | inl lt ↦
      let e : rank limit u ≡ min (rank limit t) (rank limit u) = omega arith in
      ap (rank_if limit) (before limit u t k h lt) ∙ ap Some e
  | inr le ↦
      let e : rank limit t ≡ min (rank limit t) (rank limit u) = omega arith in
      ap (rank_if limit) (not_after limit t u h k le) ∙ ap Some e
]

rank-earliest : (limit : ℕ) (a b : Option Time) → IsWaitOfRun limit a → IsWaitOfRun limit b
    → rank_if limit (earliest a b) ≡ earlier (rank_if limit a) (rank_if limit b)
rank-earliest limit None b h k = refl
rank-earliest limit (Some t) None h k = refl
rank-earliest limit (Some t) (Some u) h k = earlier_times limit t u h k

of_run : (limit : ℕ) (a b : Option Time) → IsWaitOfRun limit a → IsWaitOfRun limit b → IsWaitOfRun limit (earliest a b)
of_run limit None b h k = k
of_run limit (Some t) None h k = h
of_run limit (Some t) (Some u) h k = elim (cases_lt (rank limit u) (rank limit t)) [
  | inl lt ↦ subst (IsWaitOfRun limit) (sym (before limit u t k h lt)) k
  | inr le ↦ subst (IsWaitOfRun limit) (sym (not_after limit t u h k le)) h
]

first_of_run : (limit : ℕ) (ws : List (Option Time)) (cs : List Component) → AreNextTimes limit ws cs
    → IsWaitOfRun limit (first_of ws)
first_of_run limit [] [] h = tt
first_of_run limit [] (c ∷ cs) h = absurd h
first_of_run limit (w ∷ ws) [] h = absurd h
first_of_run limit (w ∷ ws) (c ∷ cs) h = of_run limit w (first_of ws) h.0 (first_of_run limit ws cs h.2)

pub rank-first : (limit : ℕ) (ws : List (Option Time)) (cs : List Component) → AreNextTimes limit ws cs → rank_if limit (first_of ws)
    ≡ least_next cs
rank-first limit [] [] h = refl
rank-first limit [] (c ∷ cs) h = absurd h
rank-first limit (w ∷ ws) [] h = absurd h
rank-first limit (w ∷ ws) (c ∷ cs) h =
    rank-earliest limit w (first_of ws) h.0 (first_of_run limit ws cs h.2)
    ∙ ap (earlier (rank_if limit w)) (rank-first limit ws cs h.2)
    ∙ ap (λ (next : Option ℕ). earlier next (least_next cs)) (sym h.1)

pub same_as_rank : (limit n : ℕ) (u : Time) → IsOfRun limit u → same_time u (time_of limit n) ≡ nat_eq (rank limit u) n
same_as_rank limit n u h = elim (cases_eq (rank limit u) n) [
  | inl e ↦
      let tick : tick_of limit n ≡ u.tick = ap (tick_of limit) (sym e) ∙ tick_of-rank limit u h in
      let micro : micro_of limit n ≡ u.micro = ap (micro_of limit) (sym e) ∙ micro_of-rank limit u h in
      grind (arith, nat_tests)
  | inr ne ↦
      let back : tick_of limit n * (limit + 1) + micro_of limit n ≡ n = grind arith in
      grind (arith, nat_tests)
]

pub ends_as_imminent : (limit n : ℕ) (w : Option Time) → IsWaitOfRun limit w
    → ends_at (time_of limit n) w ≡ is_at n (rank_if limit w)
ends_as_imminent limit n None h = refl
ends_as_imminent limit n (Some u) h = same_as_rank limit n u h
