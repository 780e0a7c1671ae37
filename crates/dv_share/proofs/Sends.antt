-- What is sent at a port, as it lies.
use Rattle.std.proofs.Common.{◌≡◌, inl, inr, ℕ, zero, suc, ◌<◌, ◌≤◌, nat_eq, List, [], ◌∷◌, length, get_or}
use Rattle.std.proofs.Common.{filter, refl, ap, arith}
use Rattle.std.specs.List.Sorted.{IsNonDecreasingBy}
use Rattle.dv_bag.specs.Sent.{RiseFrom, pairs_at}
use Rattle.dv_bag.specs.declared.sent.Sending.{Sending}
use Rattle.dv_share.specs.Links.{pairs_of}
use Rattle.dv_share.proofs.Indices.{yes_or_no}

-- the pairs of a port are those of the sendings that go there
pub pairs_are : (p : ℕ) (ss : List Sending) → pairs_of (filter (λ (s : Sending). nat_eq s.port p) ss) ≡ pairs_at p ss
pairs_are p [] = refl
pairs_are p (s ∷ ss) = elim (yes_or_no (nat_eq s.port p)) [
  | inl e ↦ rw e (ap (λ ps. (s.value, s.copies) ∷ ps) (pairs_are p ss))
  | inr e ↦ rw e (pairs_are p ss)
]

at_least : (low : ℕ) (ss : List Sending) (i : ℕ) (d : Sending) → RiseFrom low ss → i < length ss → low ≤ (get_or ss i d).port
at_least low [] i d h lt = absurd (omega arith)
at_least low (s ∷ ss) zero d h lt = h.0
at_least low (s ∷ ss) (suc i) d h lt = let rest = at_least s.port ss i d h.1 (omega (arith, lt)) in omega (arith, rest, h.0)

-- the ports never fall
pub ports_never_fall : (low : ℕ) (ss : List Sending) → RiseFrom low ss → IsNonDecreasingBy (λ (s : Sending). s.port) ss
ports_never_fall low [] h i j d le lt = absurd (omega arith)
ports_never_fall low (s ∷ ss) h zero zero d le lt = omega arith
ports_never_fall low (s ∷ ss) h zero (suc j) d le lt = at_least s.port ss j d h.1 (omega (arith, lt))
ports_never_fall low (s ∷ ss) h (suc i) zero d le lt = absurd (omega (arith, le))
ports_never_fall low (s ∷ ss) h (suc i) (suc j) d le lt = ports_never_fall s.port ss h.1 i j d (omega (arith, le)) (omega (arith, lt))
