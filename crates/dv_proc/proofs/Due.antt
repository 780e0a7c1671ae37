-- The next time at which something is due.
use Rattle.std.proofs.Common.{◌≡◌, ◌⊎◌, inl, inr, ℕ, suc, ◌+◌, ◌*◌, ◌<◌, ◌≤◌, min, Bool, true, false, cond, nat_eq, nat_lt}
use Rattle.std.proofs.Common.{Option, Some, None, refl, ap, sym, ◌∙◌, subst, arith}
use Rattle.std.proofs.lemmas.Bool.{cases_lt}
use Rattle.std.proofs.lemmas.Bool.Decides.{nat_tests}
use Rattle.dv_time.specs.Time.{IsOfRun, rank, succ}
use Rattle.dv_time.specs.declared.time.Time.{Time}
use Rattle.dv_devs.specs.Behaviour.{is_at}
use Rattle.dv_devs.specs.NextTimes.{IsFrom, least_next}
use Rattle.dv_conservative.specs.Process.{at_most}
use Rattle.dv_proc.specs.Advancing.{IsNextDue}
use Rattle.dv_proc.specs.Foreseeing.{rank_if}
use Rattle.dv_proc.specs.Local.{IsFirstInput, View, brings_at}

-- the lesser of a bound and of a time that may be never
most_within : (bound n : ℕ) (next : Option ℕ) → n ≡ at_most bound next → n ≤ bound
most_within bound n None e = omega arith
most_within bound n (Some m) e = omega arith

most_from : (bound n m : ℕ) (next : Option ℕ) → n ≡ at_most bound next → m ≤ n → IsFrom m next
most_from bound n m None e le = tt
most_from bound n m (Some t) e le = omega arith

most_is : (bound n : ℕ) (next : Option ℕ) → n ≡ at_most bound next → (n ≡ bound) ⊎ (is_at n next ≡ true)
most_is bound n None e = inl e
most_is bound n (Some t) e = elim (cases_lt t bound) [
  | inl lt ↦ let same : t ≡ n = omega arith in inr (grind (arith, nat_tests))
  | inr ge ↦ inl (omega arith)
]

module _ (w : View) (from upto nx n : ℕ) (nx-is : nx ≡ at_most upto (least_next w.components)) where
  next_due_by : (input : Option Time) → IsFirstInput w from input → n ≡ at_most nx (rank_if w.share.limit input) → IsNextDue w from upto n
  next_due_by None none e = record {
    within = omega (arith, most_within upto nx (least_next w.components) nx-is);
    next = most_from upto nx n (least_next w.components) nx-is (omega arith);
    none = λ j low less. none j low;
    due = subst (λ (m : ℕ). (m ≡ upto) ⊎ ((is_at m (least_next w.components) ≡ true) ⊎ ((from ≤ m) × (brings_at w m ≡ true)))) (sym e)
        (elim (most_is upto nx (least_next w.components) nx-is) [ inl last ↦ inl last | inr at ↦ inr (inl at) ]);
  }
  next_due_by (Some t) first e = elim (cases_lt (rank w.share.limit t) nx) [
    | inl lt ↦
        let here : rank w.share.limit t ≡ n = omega arith in record {
          within = omega (arith, most_within upto nx (least_next w.components) nx-is);
          next = most_from upto nx n (least_next w.components) nx-is (omega arith);
          none = λ j low less. first.3 j low (omega arith);
          due = inr (inr (omega (arith, first.1), subst (λ (m : ℕ). brings_at w m ≡ true) here first.2));
        }
    | inr ge ↦
        let here : nx ≡ n = omega arith in record {
          within = omega (arith, most_within upto nx (least_next w.components) nx-is);
          next = most_from upto nx n (least_next w.components) nx-is (omega arith);
          none = λ j low less. first.3 j low (omega arith);
          due = subst (λ (m : ℕ). (m ≡ upto) ⊎ ((is_at m (least_next w.components) ≡ true) ⊎ ((from ≤ m) × (brings_at w m ≡ true)))) here
              (elim (most_is upto nx (least_next w.components) nx-is) [ inl last ↦ inl last | inr at ↦ inr (inl at) ]);
        }
  ]

pub next_due : (w : View) (limit start from upto nx n : ℕ) (next input : Option Time) → limit ≡ w.share.limit → start ≡ from →
    rank_if w.share.limit next ≡ least_next w.components → IsFirstInput w start input → nx ≡ at_most upto (rank_if limit next) →
    n ≡ at_most nx (rank_if limit input) → IsNextDue w from upto n
next_due w limit start from upto nx n next input le same least first e f =
    next_due_by w from upto nx n
    (e ∙ ap (at_most upto) (ap (λ (l : ℕ). rank_if l next) le ∙ least)) input
    (subst (λ (m : ℕ). IsFirstInput w m input) same first) (f ∙ ap (at_most nx) (ap (λ (l : ℕ). rank_if l input) le))

pub succ_rank : (limit : ℕ) (t : Time) → IsOfRun limit t → rank limit (succ limit t) ≡ suc (rank limit t)
succ_rank limit t h = by_test (nat_lt t.micro limit) refl
  where
    by_test : (b : Bool) → nat_lt t.micro limit ≡ b →
        rank limit (cond b (record { tick = t.tick; micro = t.micro + 1 }) (record { tick = t.tick + 1; micro = 0 })) ≡ suc (rank limit t)
    by_test true e = omega arith
    by_test false e = let last : limit ≤ t.micro = grind (arith, nat_tests) in omega arith
