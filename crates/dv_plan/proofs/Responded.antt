-- The least response of each process, one component after the other.
use Rattle.std.proofs.Common.{◌≡◌, ◌≢◌, ℕ, ◌+◌, ◌<◌, nat_eq, List, ◌∷◌, length, get_or, Option, Some, None, inl, inr, refl, ap}
use Rattle.std.proofs.Common.{sym, ◌∙◌, arith}
use Rattle.std.proofs.Math.ListN.{set}
use Rattle.std.proofs.lemmas.Bool.{cases_Bool}
use Rattle.std.proofs.lemmas.Bool.Decides.{nat_tests}
use Rattle.std.proofs.lemmas.List.{get_or-set_other, get_or-set_same}
use Rattle.dv_time.specs.Time.{earlier}
use Rattle.dv_conservative.specs.Responses.{least_response}

earlier_assoc : (a b c : Option ℕ) → earlier (earlier a b) c ≡ earlier a (earlier b c)
earlier_assoc None b c = refl
earlier_assoc (Some x) None c = refl
earlier_assoc (Some x) (Some y) None = refl
earlier_assoc (Some x) (Some y) (Some z) = ap Some (omega arith)

pub earlier_none : (a : Option ℕ) → earlier a None ≡ a
earlier_none None = refl
earlier_none (Some x) = refl

pub lowered : (owner : ℕ → ℕ) (found : List (Option ℕ)) (i p : ℕ) (r : Option ℕ) (rs : List (Option ℕ)) → owner i < length found →
    earlier (get_or (set found (owner i) (earlier (get_or found (owner i) None) r)) p None) (least_response owner p (i + 1) rs)
    ≡ earlier (get_or found p None) (least_response owner p i (r ∷ rs))
lowered owner found i p r rs lt = elim (cases_Bool (nat_eq (owner i) p)) [
  | inl e ↦
      let same : owner i ≡ p = grind (arith, nat_tests) in
      let new = earlier (get_or found (owner i) None) r in
      let rest = least_response owner p (i + 1) rs in
      rw e
      (ap (λ k. earlier (get_or (set found (owner i) new) k None) rest) (sym same)
      ∙ ap (λ o. earlier o rest) (get_or-set_same found (owner i) new None lt)
      ∙ earlier_assoc (get_or found (owner i) None) r rest
      ∙ ap (λ k. earlier (get_or found k None) (earlier r rest)) same)
  | inr e ↦
      let apart : p ≢ owner i = grind (arith, nat_tests) in
      rw e
      (ap (λ o. earlier o (least_response owner p (i + 1) rs))
      (get_or-set_other found (owner i) p (earlier (get_or found (owner i) None) r) None apart))
]
