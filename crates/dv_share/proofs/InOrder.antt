-- The indices of the receipts that are met, in their order.
use Rattle.std.proofs.Common.{◌≡◌, inl, inr, ℕ, zero, suc, ◌+◌, ◌<◌, ◌≤◌, true, false, nat_eq, List, [], ◌∷◌, ◌++◌}
use Rattle.std.proofs.Common.{length, IsPermutation, refl, sym, ap, ◌∙◌, subst, arith}
use Rattle.std.proofs.lemmas.Bool.{cases_lt, eqb-true}
use Rattle.std.proofs.lemmas.List.Sorted.{IsPermutation-cons, IsPermutation-middle, IsPermutation-refl, IsPermutation-sym, IsPermutation-trans}
use Rattle.std.proofs.lemmas.List.Sorted.{sum_by-IsPermutation}
use Rattle.dv_share.specs.Indices.{AreRising, RiseFrom, is_in, indices_of}
use Rattle.dv_share.specs.Received.{AreMet, count_in, met_of, indexed_at, receipt_at}
use Rattle.dv_share.specs.declared.received.Receipt.{Receipt}
use Rattle.dv_share.proofs.Gathering.{count_cons, counted_none, one_if}
use Rattle.dv_share.proofs.MetIndices.{count_past, met_moved, indices_met}
use Rattle.dv_share.proofs.Indices.{differ, itself, not_below, weaken, yes_or_no}

false_true : false ≡ true → ⊥
false_true h = cc

-- a list with a number in it, at the first index where it stands
record Parted (p : ℕ) (ps : List ℕ) : Type 0 where
  before : List ℕ
  behind : List ℕ
  is : ps ≡ before ++ p ∷ behind

parted : (p : ℕ) (ps : List ℕ) → is_in p ps ≡ true → Parted p ps
parted p [] here = absurd (false_true here)
parted p (q ∷ ps) here = elim (yes_or_no (nat_eq q p)) [
  | inl e ↦ record { before = []; behind = ps; is = ap (λ (r : ℕ). r ∷ ps) (eqb-true q p e) }
  | inr e ↦
      let rest = parted p ps (rw e at here) in
      record { before = q ∷ rest.before; behind = rest.behind; is = ap (λ (rs : List ℕ). q ∷ rs) rest.is }
]

-- lists in which each number is as often are each other's permutations
pub same_counts : (ps qs : List ℕ) → ((p : ℕ) → count_in p ps ≡ count_in p qs) → IsPermutation ps qs
same_counts [] [] h = IsPermutation-refl []
same_counts [] (q ∷ qs) h = absurd (omega (arith, h q, count_cons q q qs, ap one_if (itself q)))
same_counts (p ∷ ps) qs h = elim (yes_or_no (is_in p qs)) [
  | inr e ↦ absurd (omega (arith, h p, counted_none p qs e, count_cons p p ps, ap one_if (itself p)))
  | inl e ↦
      let two = parted p qs e in
      let rest : List ℕ = two.before ++ two.behind in
      let middle : IsPermutation qs (p ∷ rest) =
      subst (λ (rs : List ℕ). IsPermutation rs (p ∷ rest)) (sym two.is) (IsPermutation-middle two.before p two.behind) in
      let same : (q : ℕ) → count_in q ps ≡ count_in q rest =
      λ q. omega (
        arith,
        h q,
        count_cons q p ps,
        count_cons q p rest,
        sum_by-IsPermutation (λ (r : ℕ). one_if (nat_eq r q)) qs (p ∷ rest) middle,
      ) in
      IsPermutation-trans (p ∷ ps) (p ∷ rest) qs (IsPermutation-cons p ps rest (same_counts ps rest same))
      (IsPermutation-sym qs (p ∷ rest) middle)
]

-- each receipt stands at its own index, from an index on
abbrev OwnFrom : ℕ → List Receipt → Type 0
OwnFrom low rs = (i : ℕ) → i < length rs → (receipt_at rs i).indexed.index ≡ low + i

own_rest : (low : ℕ) (r : Receipt) (rs : List Receipt) → OwnFrom low (r ∷ rs) → OwnFrom (suc low) rs
own_rest low r rs own i lt = omega (arith, own (suc i) (omega (arith, lt)))

own_first : (low : ℕ) (r : Receipt) (rs : List Receipt) → OwnFrom low (r ∷ rs) → r.indexed.index ≡ low
own_first low r rs own = omega (arith, own 0 (omega arith))

rise_from : (low : ℕ) (rs : List Receipt) → OwnFrom low rs → RiseFrom low (met_of rs)
rise_from low [] own = tt
rise_from low (r ∷ rs) own =
    let first = own_first low r rs own in
    let rest = rise_from (suc low) rs (own_rest low r rs own) in
    elim (yes_or_no r.is_met) [
      | inl e ↦ rw e (omega (arith, first), subst (λ (k : ℕ). RiseFrom (suc k) (met_of rs)) (sym first) rest)
      | inr e ↦ rw e (weaken (suc low) low (met_of rs) (omega arith) rest)
    ]

-- no index past the receipts is among them
out_past : (low : ℕ) (rs : List Receipt) → OwnFrom low rs → (p : ℕ) → low + length rs ≤ p → is_in p (met_of rs) ≡ false
out_past low [] own p past = refl
out_past low (r ∷ rs) own p past =
    let first = own_first low r rs own in
    let rest = out_past (suc low) rs (own_rest low r rs own) p (omega (arith, past)) in
    let apart : nat_eq r.indexed.index p ≡ false = differ r.indexed.index p (λ e. absurd (omega (arith, e, first, past))) in
    elim (yes_or_no r.is_met) [
      | inl e ↦ rw e (rw apart rest)
      | inr e ↦ rw e rest
    ]

counted : (low : ℕ) (rs : List Receipt) → OwnFrom low rs → (i : ℕ) → i < length rs
    → count_in (low + i) (met_of rs) ≡ one_if (receipt_at rs i).is_met
counted low [] own i lt = absurd (omega (arith, lt))
counted low (r ∷ rs) own zero lt =
    let first = own_first low r rs own in
    let none : count_in (low + 0) (met_of rs) ≡ 0 =
    counted_none (low + 0) (met_of rs) (not_below (suc low) (low + 0) (met_of rs) (rise_from (suc low) rs (own_rest low r rs own)) (omega arith)) in
    elim (yes_or_no r.is_met) [
      | inl e ↦
          let here : nat_eq r.indexed.index (low + 0) ≡ true =
          ap (λ (k : ℕ). nat_eq k (low + 0)) (own 0 (omega arith)) ∙ itself (low + 0) in
          rw e (count_cons (low + 0) r.indexed.index (met_of rs) ∙ omega (arith, none, ap one_if here))
      | inr e ↦ rw e none
    ]
counted low (r ∷ rs) own (suc i) lt =
    let first = own_first low r rs own in
    let next : low + suc i ≡ suc low + i = omega arith in
    let rest : count_in (low + suc i) (met_of rs) ≡ one_if (receipt_at rs i).is_met =
    ap (λ (p : ℕ). count_in p (met_of rs)) next ∙ counted (suc low) rs (own_rest low r rs own) i (omega (arith, lt)) in
    let apart : nat_eq r.indexed.index (low + suc i) ≡ false =
    differ r.indexed.index (low + suc i) (λ e. absurd (omega (arith, e, first))) in
    elim (yes_or_no r.is_met) [
      | inl e ↦ rw e (count_cons (low + suc i) r.indexed.index (met_of rs) ∙ omega (arith, rest, ap one_if apart))
      | inr e ↦ rw e rest
    ]

module _ (receipts : List Receipt) (ps : List ℕ) (h : AreMet receipts ps) where
  own : OwnFrom 0 receipts
  own i lt = omega (arith, h.own i lt)

  -- the indices that are met, in another order
  pub met_same : IsPermutation ps (met_of receipts)
  met_same = same_counts ps (met_of receipts) (λ p. elim (cases_lt p (length receipts)) [
    | inl lt ↦
        let is : p ≡ 0 + p = omega arith in
        h.once p lt ∙ sym (ap (λ (q : ℕ). count_in q (met_of receipts)) is ∙ counted 0 receipts own p lt)
    | inr ge ↦
        count_past (length receipts) p ps h.within ge
        ∙ sym (counted_none p (met_of receipts) (out_past 0 receipts own p (omega (arith, ge))))
  ])

  pub met_in_order : AreMet receipts (met_of receipts)
  met_in_order = met_moved receipts ps (met_of receipts) h met_same

  pub met_of_rise : AreRising (indices_of (indexed_at receipts (met_of receipts)))
  met_of_rise = subst AreRising (sym (indices_met receipts (met_of receipts) met_in_order)) (rise_from 0 receipts own)
