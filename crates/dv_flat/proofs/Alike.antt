-- Numbers that are alike as far as they are kept.
use Rattle.std.proofs.Common.{◌≡◌, ℕ, zero, suc, ◌*◌, ◌-◌, ◌^◌, ◌<◌, ◌≤◌, min, ap, arith, ⊎_elim}
use Rattle.std.proofs.lemmas.Bool.{cases_lt}
use Rattle.dv_bag.specs.Bag.{capped}

abbrev pub Alike : ℕ → ℕ → Type 0
Alike a b = capped a ≡ capped b

many_times : (m a b c : ℕ) → m ≤ a → m ≤ b → min (a * c) m ≡ min (b * c) m
many_times m a b zero first second = omega arith
many_times m a b (suc c) first second = omega arith

times_kept : (m a b c : ℕ) → min a m ≡ min b m → min (a * c) m ≡ min (b * c) m
times_kept m a b c alike =
    ⊎_elim
    (λ (below : a < m). let same : a ≡ b = omega (arith, below, alike) in ap (λ n. min (n * c) m) same)
    (λ (above : m ≤ a). many_times m a b c above (omega (arith, above, alike))) (cases_lt a m)

pub alike_times : (a b c : ℕ) → Alike a b → Alike (a * c) (b * c)
alike_times a b c alike = times_kept (2 ^ 64 - 1) a b c alike
