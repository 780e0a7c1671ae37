-- Ranks and times, there and back.
use Rattle.std.proofs.Common.{◌≡◌, inl, inr, ℕ, ◌+◌, ◌<◌, ◌≤◌, nat_lt, true, false, sym, ap, arith, ◌∙◌}
use Rattle.std.proofs.lemmas.Bool.{cases_lt, le-ltb, lt-ltb}
use Rattle.std.proofs.lemmas.Bool.Decides.{nat_tests}
use Rattle.std.proofs.lemmas.Nat.{div-mul-add, mod-mul-add}
use Rattle.dv_time.specs.Time.{IsOfRun, is_before, rank, tick_of, micro_of, time_of}
use Rattle.dv_time.specs.declared.time.Time.{Time}

pub tick_of-rank : (limit : ℕ) (t : Time) → IsOfRun limit t → tick_of limit (rank limit t) ≡ t.tick
tick_of-rank limit t h = div-mul-add t.tick (limit + 1) t.micro (omega arith)

pub micro_of-rank : (limit : ℕ) (t : Time) → IsOfRun limit t → micro_of limit (rank limit t) ≡ t.micro
micro_of-rank limit t h = mod-mul-add t.tick (limit + 1) t.micro (omega arith)

pub time_of-rank : (limit : ℕ) (t : Time) → IsOfRun limit t → time_of limit (rank limit t) ≡ t
time_of-rank limit t h =
    ap (λ (n : ℕ). let u : Time = record { tick = n; micro = micro_of limit (rank limit t) } in u) (tick_of-rank limit t h)
    ∙ ap (λ (n : ℕ). let u : Time = record { tick = t.tick; micro = n } in u) (micro_of-rank limit t h)

-- times in the order of their ranks
before_less : (limit : ℕ) (a b : Time) → IsOfRun limit a → IsOfRun limit b → rank limit a < rank limit b → is_before a b ≡ true
before_less limit a b h k lt = grind (arith, nat_tests)

before_not_less : (limit : ℕ) (a b : Time) → IsOfRun limit a → IsOfRun limit b → rank limit b ≤ rank limit a → is_before a b ≡ false
before_not_less limit a b h k le = grind (arith, nat_tests)

pub is_before-rank : (limit : ℕ) (a b : Time) → IsOfRun limit a → IsOfRun limit b → is_before a b ≡ nat_lt (rank limit a) (rank limit b)
is_before-rank limit a b h k = elim (cases_lt (rank limit a) (rank limit b)) [
  | inl lt ↦ before_less limit a b h k lt ∙ sym (lt-ltb (rank limit a) (rank limit b) lt)
  | inr ge ↦ before_not_less limit a b h k ge ∙ sym (le-ltb (rank limit a) (rank limit b) ge)
]
