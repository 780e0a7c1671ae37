-- The soonest response of phases, part of them after part.
use Rattle.std.proofs.Common.{◌≡◌, ℕ, List, [], ◌∷◌, ◌++◌, Option, refl, sym, ap, ◌∙◌}
use Rattle.dv_time.specs.Time.{earlier}
use Rattle.dv_bound.specs.Soonest.{soonest}

module _ (response : ℕ → Option ℕ) where
  pub soonest-append : (start : Option ℕ) (xs ys : List ℕ)
      → soonest response start (xs ++ ys) ≡ soonest response (soonest response start xs) ys
  soonest-append start [] ys = refl
  soonest-append start (x ∷ xs) ys = soonest-append (earlier start (response x)) xs ys

  -- after the first phases of a list comes the rest
  pub soonest_rest : (start now : Option ℕ) (xs ys whole : List ℕ) → now ≡ soonest response start xs → whole ≡ xs ++ ys
      → soonest response now ys ≡ soonest response start whole
  soonest_rest start now xs ys whole first parts =
      ap (λ o. soonest response o ys) first ∙ sym (ap (soonest response start) parts ∙ soonest-append start xs ys)

-- phases whose responses are alike
pub soonest_alike : (one other : ℕ → Option ℕ) (start : Option ℕ) (phases : List ℕ) → ((phase : ℕ) → one phase ≡ other phase)
    → soonest one start phases ≡ soonest other start phases
soonest_alike one other start [] alike = refl
soonest_alike one other start (phase ∷ phases) alike =
    ap (λ o. soonest one (earlier start o) phases) (alike phase) ∙ soonest_alike one other (earlier start (other phase)) phases alike
