-- The indices of a word that are due, as a walk over its bits finds them.
use Rattle.std.proofs.Common.{◌≡◌, ◌≢◌, inl, inr, ℕ, None, Option, ◌+◌, ◌-◌, ◌^◌, ◌<◌, ◌≤◌, ◌++◌, false, List}
use Rattle.std.proofs.Common.{get_or, take, sym, ap, subst, arith, ◌∙◌, w64}
use Rattle.std.proofs.lemmas.Bool.{cases_eq}
use Rattle.std.specs.Int.{bit_at, trailing_zeros}
use Rattle.dv_time.specs.declared.time.Time.{Time}
use Rattle.dv_agenda.specs.Waits.{due_at, ends_at}
use Rattle.dv_agenda.proofs.FirstWaits.{due_skip}
use Rattle.dv_agenda.proofs.Sets.{below_lowest, lowest_above}

-- indices whose bits are not set are passed over
pub past : (t : Time) (ws : List (Option Time)) (word base i j : ℕ) → i ≤ j → j ≤ 64
    → ((p : ℕ) → p < 64 → bit_at word p ≡ 0 → ends_at t (get_or ws (base + p) None) ≡ false)
    → ((p : ℕ) → i ≤ p → p < j → bit_at word p ≡ 0)
    → due_at t (take (base + j) ws) ≡ due_at t (take (base + i) ws)
past t ws word base i j le high others none =
    due_skip t ws (base + i) (base + j) (omega arith) (λ p low lt.
    let e : base + (p - base) ≡ p = omega arith in
    subst (λ (q : ℕ). ends_at t (get_or ws q None) ≡ false) e
    (others (p - base) (omega arith) (none (p - base) (omega arith) (omega arith))))

-- the lowest bit of a word is taken out
pub taken : (word rest rest2 k : ℕ) → rest < 2 ^ 64 → rest2 < 2 ^ 64 → k < 64 → k ≡ trailing_zeros w64 rest → bit_at rest2 k ≡ 0
    → ((p : ℕ) → p < 64 → p ≢ k → bit_at rest2 p ≡ bit_at rest p) → k < trailing_zeros w64 rest2
taken word rest rest2 k small small2 lt is gone others = lowest_above rest2 k lt small2 (λ p le. elim (cases_eq p k) [
  | inl e ↦ ap (bit_at rest2) e ∙ gone
  | inr ne ↦ others p (omega arith) ne ∙ below_lowest rest p small (omega arith)
])

-- what a list has before an index is looked at
pub so_far : (t : Time) (ws : List (Option Time)) (items : List ℕ) (base k tz : ℕ) (before : List ℕ) → k ≡ tz
    → items ≡ before ++ due_at t (take (base + tz) ws) → items ≡ before ++ due_at t (take (base + k) ws)
so_far t ws items base k tz before e h = h ∙ ap (λ (i : ℕ). before ++ due_at t (take (base + i) ws)) (sym e)
