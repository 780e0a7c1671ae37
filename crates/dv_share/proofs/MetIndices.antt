-- Which receipts are met, and what stands at their indices.
use Rattle.std.proofs.Common.{◌≡◌, inl, inr, ℕ, zero, suc, ◌+◌, ◌<◌, ◌≤◌, Bool, true, false, nat_eq, List, [], ◌∷◌, ◌++◌}
use Rattle.std.proofs.Common.{length, get_or, set, map, replicate, IsPermutation, IsTrue, refl, sym, ap, ◌∙◌, subst, arith}
use Rattle.std.specs.List.{All}
use Rattle.std.specs.List.Sorted.{IsNonDecreasing}
use Rattle.std.proofs.lemmas.Bool.{cases_lt, eq-eqb, eqb-true}
use Rattle.std.proofs.lemmas.List.{length-append, map-append, get_or-set_same, get_or-set_other, length-set}
use Rattle.std.proofs.lemmas.List.Sorted.{All-permutation, sum_by-IsPermutation}
use Rattle.dv_bag.specs.Bag.{Counts}
use Rattle.dv_conservative.specs.Links.{Delivery as Meant}
use Rattle.dv_share.specs.Indices.{AreRising, is_in, indices_of}
use Rattle.dv_share.specs.Received.{AreMet, receipt_at, count_in, nowhere, indexed_at, with_delivery_at, with_index}
use Rattle.dv_share.specs.declared.index.Indexed.{Indexed}
use Rattle.dv_share.specs.declared.received.Receipt.{Receipt}
use Rattle.dv_share.proofs.Gathering.{count_push, counted_none, counted_some, one_if, rise_by_counts}
use Rattle.dv_share.proofs.Indices.{all_first, all_rest, differ, yes_or_no}

false_true : false ≡ true → ⊥
false_true h = cc

pub met_new : AreMet [] []
met_new = record {
  own = λ p lt. absurd (omega (arith, lt));
  once = λ p lt. absurd (omega (arith, lt));
  within = λ i p lt. absurd (omega (arith, lt));
}

-- no number past those of a list is in it
pub count_past : (n p : ℕ) (ps : List ℕ) → All (λ q. q < n) ps → n ≤ p → count_in p ps ≡ 0
count_past n p ps within past = counted_none p ps (out ps within)
  where
    out : (qs : List ℕ) → All (λ q. q < n) qs → is_in p qs ≡ false
    out [] h = refl
    out (q ∷ qs) h =
        let e : nat_eq q p ≡ false = differ q p (λ e. absurd (omega (arith, e, past, all_first (λ q. q < n) q qs h))) in
        rw e (out qs (all_rest (λ q. q < n) q qs h))

-- the indices of what stands at indices
pub indices_are : (receipts : List Receipt) (ps : List ℕ) → ((p : ℕ) → p < length receipts → (receipt_at receipts p).indexed.index ≡ p)
    → All (λ p. p < length receipts) ps → indices_of (indexed_at receipts ps) ≡ ps
indices_are receipts [] own within = refl
indices_are receipts (p ∷ ps) own within =
    ap (λ (q : ℕ). q ∷ indices_of (indexed_at receipts ps)) (own p (all_first (λ p. p < length receipts) p ps within))
    ∙ ap (λ (qs : List ℕ). p ∷ qs) (indices_are receipts ps own (all_rest (λ p. p < length receipts) p ps within))

module _ (receipts : List Receipt) (ps : List ℕ) (h : AreMet receipts ps) where
  pub indices_met : indices_of (indexed_at receipts ps) ≡ ps
  indices_met = indices_are receipts ps h.own h.within

  pub in_where_met : (p : ℕ) → p < length receipts → (receipt_at receipts p).is_met ≡ true → is_in p (indices_of (indexed_at receipts ps)) ≡ true
  in_where_met p lt met = elim (yes_or_no (is_in p ps)) [
    | inl e ↦ ap (is_in p) indices_met ∙ e
    | inr e ↦ absurd (omega (arith, counted_none p ps e, h.once p lt, ap one_if met))
  ]

  pub out_where_not : (p : ℕ) → p < length receipts → (receipt_at receipts p).is_met ≡ false → is_in p (indices_of (indexed_at receipts ps)) ≡ false
  out_where_not p lt not = elim (yes_or_no (is_in p ps)) [
    | inr e ↦ ap (is_in p) indices_met ∙ e
    | inl e ↦ absurd (omega (arith, counted_some p ps e, h.once p lt, ap one_if not))
  ]

  -- with another receipt at an index
  pub met_set : (qs : List ℕ) (p : ℕ) (a : Receipt) → p < length receipts → a.indexed.index ≡ p → count_in p qs ≡ one_if a.is_met
      → ((q : ℕ) → (q ≡ p → ⊥) → count_in q qs ≡ count_in q ps) → All (λ q. q < length receipts) qs → AreMet (set receipts p a) qs
  met_set qs p a lt own here others within = record {
    own = λ q less. elim (yes_or_no (nat_eq q p)) [
      | inl e ↦
          let same = eqb-true q p e in
          ap (λ (r : ℕ). (receipt_at (set receipts p a) r).indexed.index) same
          ∙ ap (λ (a : Receipt). a.indexed.index) (get_or-set_same receipts p a nowhere lt) ∙ own ∙ sym same
      | inr e ↦
          ap (λ (a : Receipt). a.indexed.index) (get_or-set_other receipts p q a nowhere (λ s. false_true (sym e ∙ eq-eqb q p s)))
          ∙ h.own q (omega (arith, less, length-set receipts p a))
    ];
    once = λ q less. elim (yes_or_no (nat_eq q p)) [
      | inl e ↦
          let same = eqb-true q p e in
          ap (λ (r : ℕ). count_in r qs) same ∙ here
          ∙ ap (λ (a : Receipt). one_if a.is_met) (sym (get_or-set_same receipts p a nowhere lt))
          ∙ ap (λ (r : ℕ). one_if (receipt_at (set receipts p a) r).is_met) (sym same)
      | inr e ↦
          let apart : q ≡ p → ⊥ = λ s. false_true (sym e ∙ eq-eqb q p s) in
          others q apart ∙ h.once q (omega (arith, less, length-set receipts p a))
          ∙ ap (λ (a : Receipt). one_if a.is_met) (sym (get_or-set_other receipts p q a nowhere apart))
    ];
    within = λ i q less. subst (λ n. get_or qs i q < n) (sym (length-set receipts p a)) (within i q less);
  }

  -- with an receipt that is not met behind the last one
  pub met_room : (a : Receipt) → a.indexed.index ≡ length receipts → a.is_met ≡ false → AreMet (receipts ++ a ∷ []) ps
  met_room a own not = record {
    own = λ q less. elim (cases_lt q (length receipts)) [
      | inl lt ↦ ap (λ (a : Receipt). a.indexed.index) (first q lt) ∙ h.own q lt
      | inr ge ↦
          let same : q ≡ length receipts = omega (arith, ge, less, length_push receipts a) in
          ap (λ (r : ℕ). (receipt_at (receipts ++ a ∷ []) r).indexed.index) same ∙ ap (λ (a : Receipt). a.indexed.index) (last receipts) ∙ own ∙ sym same
    ];
    once = λ q less. elim (cases_lt q (length receipts)) [
      | inl lt ↦ h.once q lt ∙ ap (λ (a : Receipt). one_if a.is_met) (sym (first q lt))
      | inr ge ↦
          let same : q ≡ length receipts = omega (arith, ge, less, length_push receipts a) in
          count_past (length receipts) q ps h.within ge
          ∙ sym (ap (λ (r : ℕ). one_if (receipt_at (receipts ++ a ∷ []) r).is_met) same ∙ ap (λ (a : Receipt). one_if a.is_met) (last receipts)
          ∙ ap one_if not)
    ];
    within = λ i q less. omega (arith, h.within i q less, length_push receipts a);
  }
    where
      length_push : (bs : List Receipt) (b : Receipt) → length (bs ++ b ∷ []) ≡ length bs + 1
      length_push bs b = length-append bs (b ∷ [])

      first : (q : ℕ) → q < length receipts → receipt_at (receipts ++ a ∷ []) q ≡ receipt_at receipts q
      first q lt = before receipts q lt
        where
          before : (bs : List Receipt) (q : ℕ) → q < length bs → get_or (bs ++ a ∷ []) q nowhere ≡ get_or bs q nowhere
          before [] q lt = absurd (omega (arith, lt))
          before (b ∷ bs) zero lt = refl
          before (b ∷ bs) (suc q) lt = before bs q (omega (arith, lt))

      last : (bs : List Receipt) → get_or (bs ++ a ∷ []) (length bs) nowhere ≡ a
      last [] = refl
      last (b ∷ bs) = last bs

-- what stands at indices that lie before the end of a list
pub indexed_room : (receipts : List Receipt) (a : Receipt) (ps : List ℕ) → All (λ p. p < length receipts) ps → indexed_at (receipts ++ a ∷ []) ps ≡ indexed_at receipts ps
indexed_room receipts a [] within = refl
indexed_room receipts a (p ∷ ps) within =
    ap (λ (x : Indexed (List Counts)). x ∷ indexed_at (receipts ++ a ∷ []) ps)
    (ap (λ (a : Receipt). a.indexed) (before receipts p (all_first (λ p. p < length receipts) p ps within)))
    ∙ ap (λ (xs : List (Indexed (List Counts))). (receipt_at receipts p).indexed ∷ xs)
    (indexed_room receipts a ps (all_rest (λ p. p < length receipts) p ps within))
  where
    before : (bs : List Receipt) (q : ℕ) → q < length bs → get_or (bs ++ a ∷ []) q nowhere ≡ get_or bs q nowhere
    before [] q lt = absurd (omega (arith, lt))
    before (b ∷ bs) zero lt = refl
    before (b ∷ bs) (suc q) lt = before bs q (omega (arith, lt))

-- with another receipt at an index that is none of those
pub indexed_apart : (receipts : List Receipt) (p : ℕ) (a : Receipt) (ps : List ℕ) → is_in p ps ≡ false → indexed_at (set receipts p a) ps ≡ indexed_at receipts ps
indexed_apart receipts p a [] out = refl
indexed_apart receipts p a (q ∷ ps) out = elim (yes_or_no (nat_eq q p)) [
  | inl e ↦ absurd (false_true (sym (rw e at out)))
  | inr e ↦
      ap (λ (x : Indexed (List Counts)). x ∷ indexed_at (set receipts p a) ps)
      (ap (λ (a : Receipt). a.indexed) (get_or-set_other receipts p q a nowhere (λ s. false_true (sym e ∙ eq-eqb q p s))))
      ∙ ap (λ (xs : List (Indexed (List Counts))). (receipt_at receipts q).indexed ∷ xs) (indexed_apart receipts p a ps (rw e at out))
]

-- with a delivery more in the bags at an index
pub indexed_put : (receipts : List Receipt) (p : ℕ) (a : Receipt) (d : Meant) (ps : List ℕ) → p < length receipts
    → ((q : ℕ) → q < length receipts → (receipt_at receipts q).indexed.index ≡ q) → All (λ q. q < length receipts) ps
    → a.indexed ≡ with_delivery_at p d (receipt_at receipts p).indexed →
    indexed_at (set receipts p a) ps ≡ map (with_delivery_at p d) (indexed_at receipts ps)
indexed_put receipts p a d [] lt own within is = refl
indexed_put receipts p a d (q ∷ ps) lt own within is =
    ap (λ (x : Indexed (List Counts)). x ∷ indexed_at (set receipts p a) ps) (elim (yes_or_no (nat_eq q p)) [
      | inl e ↦
          let same = eqb-true q p e in
          ap (λ (r : ℕ). (receipt_at (set receipts p a) r).indexed) same ∙ ap (λ (a : Receipt). a.indexed) (get_or-set_same receipts p a nowhere lt) ∙ is
          ∙ ap (λ (r : ℕ). with_delivery_at p d (receipt_at receipts r).indexed) (sym same)
      | inr e ↦
          let index : (receipt_at receipts q).indexed.index ≡ q = own q (all_first (λ q. q < length receipts) q ps within) in
          let other : nat_eq (receipt_at receipts q).indexed.index p ≡ false = ap (λ (r : ℕ). nat_eq r p) index ∙ e in
          ap (λ (a : Receipt). a.indexed) (get_or-set_other receipts p q a nowhere (λ s. false_true (sym e ∙ eq-eqb q p s)))
          ∙ sym (apart (receipt_at receipts q).indexed other)
    ])
    ∙ ap (λ (xs : List (Indexed (List Counts))). with_delivery_at p d (receipt_at receipts q).indexed ∷ xs)
    (indexed_put receipts p a d ps lt own (all_rest (λ q. q < length receipts) q ps within) is)
  where
    apart : (x : Indexed (List Counts)) → nat_eq x.index p ≡ false → with_delivery_at p d x ≡ x
    apart x e = rw e refl

-- one index more
pub met_more : (receipts : List Receipt) (ps : List ℕ) (p : ℕ) (a : Receipt) → AreMet receipts ps → p < length receipts
    → (receipt_at receipts p).is_met ≡ false → a.indexed.index ≡ p → a.is_met ≡ true → AreMet (set receipts p a) (ps ++ p ∷ [])
met_more receipts ps p a h lt not own met =
    met_set receipts ps h (ps ++ p ∷ []) p a lt own
    (count_push p p ps ∙ (omega (
      arith,
      h.once p lt,
      ap one_if not,
      ap one_if met,
      ap one_if (eq-eqb p p refl),
    )))
    (λ q apart. omega (arith, count_push q p ps, ap one_if (differ p q (λ e. apart (sym e)))))
    (All-push' (λ q. q < length receipts) ps p h.within lt)
  where
    All-push' : (P : ℕ → Type 0) (qs : List ℕ) (q : ℕ) → All P qs → P q → All P (qs ++ q ∷ [])
    All-push' P [] q hs one zero d less = one
    All-push' P [] q hs one (suc i) d less = absurd (omega (arith, less))
    All-push' P (r ∷ qs) q hs one zero d less = all_first P r qs hs
    All-push' P (r ∷ qs) q hs one (suc i) d less = All-push' P qs q (all_rest P r qs hs) one i d (omega (arith, less))

-- one index less
pub met_less : (receipts : List Receipt) (ps : List ℕ) (p : ℕ) (a : Receipt) → AreMet receipts (ps ++ p ∷ []) → p < length receipts
    → a.indexed.index ≡ p → a.is_met ≡ false → AreMet (set receipts p a) ps
met_less receipts ps p a h lt own not =
    met_set receipts (ps ++ p ∷ []) h ps p a lt own
    (omega (
      arith,
      once p lt,
      h.once p lt,
      count_push p p ps,
      ap one_if not,
      ap one_if (eq-eqb p p refl),
    ))
    (λ q apart. omega (arith, count_push q p ps, ap one_if (differ p q (λ e. apart (sym e)))))
    (front ps h.within)
  where
    most : (t : Bool) → one_if t ≤ 1
    most true = omega arith
    most false = omega arith

    once : (q : ℕ) → q < length receipts → count_in q (ps ++ p ∷ []) ≤ 1
    once q less = omega (arith, h.once q less, most (receipt_at receipts q).is_met)

    front : (qs : List ℕ) → All (λ q. q < length receipts) (qs ++ p ∷ []) → All (λ q. q < length receipts) qs
    front [] hs i d less = absurd (omega (arith, less))
    front (q ∷ qs) hs zero d less = all_first (λ q. q < length receipts) q (qs ++ p ∷ []) hs
    front (q ∷ qs) hs (suc i) d less = front qs (all_rest (λ q. q < length receipts) q (qs ++ p ∷ []) hs) i d (omega (arith, less))

-- the indices in another order
pub met_moved : (receipts : List Receipt) (ps qs : List ℕ) → AreMet receipts ps → IsPermutation ps qs → AreMet receipts qs
met_moved receipts ps qs h same = record {
  own = h.own;
  once = λ p lt. sum_by-IsPermutation (λ (q : ℕ). one_if (nat_eq q p)) ps qs same ∙ h.once p lt;
  within = All-permutation (λ p. p < length receipts) ps qs same h.within;
}

pub met_rise : (receipts : List Receipt) (ps : List ℕ) → AreMet receipts ps → IsNonDecreasing ps → AreRising (indices_of (indexed_at receipts ps))
met_rise receipts ps h sorted = subst AreRising (sym (indices_met receipts ps h))
    (rise_by_counts 0 ps (λ k d lt. omega arith) (λ k d lt. sorted k (suc k) d (omega arith) lt) (λ p. once p))
  where
    most : (t : Bool) → one_if t ≤ 1
    most true = omega arith
    most false = omega arith

    once : (p : ℕ) → count_in p ps ≤ 1
    once p = elim (cases_lt p (length receipts)) [
      | inl lt ↦ omega (arith, h.once p lt, most (receipt_at receipts p).is_met)
      | inr ge ↦ omega (arith, count_past (length receipts) p ps h.within ge)
    ]

-- what holds of all that stands at indices holds of each
pub at_index : (receipts : List Receipt) (p : ℕ) (P : Indexed (List Counts) → Type 0) (ps : List ℕ) → All P (indexed_at receipts ps)
    → IsTrue (is_in p ps) → P (receipt_at receipts p).indexed
at_index receipts p P [] h here = absurd (false_true here)
at_index receipts p P (q ∷ ps) h here = elim (yes_or_no (nat_eq q p)) [
  | inl e ↦ subst (λ (r : ℕ). P (receipt_at receipts r).indexed) (eqb-true q p e)
      (all_first P (receipt_at receipts q).indexed (indexed_at receipts ps) h)
  | inr e ↦ at_index receipts p P ps (all_rest P (receipt_at receipts q).indexed (indexed_at receipts ps) h) (rw e at here)
]

-- what stands at one index more
pub indexed_more : (receipts : List Receipt) (ps : List ℕ) (p n : ℕ) (a : Receipt) → AreMet receipts ps → p < length receipts
    → (receipt_at receipts p).is_met ≡ false → a.indexed ≡ record { index = p; what = replicate n [] } →
    indexed_at (set receipts p a) (ps ++ p ∷ []) ≡ with_index p n (indexed_at receipts ps)
indexed_more receipts ps p n a h lt not is =
    let out : is_in p (indices_of (indexed_at receipts ps)) ≡ false = out_where_not receipts ps h p lt not in
    let apart : is_in p ps ≡ false = ap (is_in p) (sym (indices_met receipts ps h)) ∙ out in
    map-append (λ (q : ℕ). (receipt_at (set receipts p a) q).indexed) ps (p ∷ [])
    ∙ ap (λ (xs : List (Indexed (List Counts))). xs ++ (receipt_at (set receipts p a) p).indexed ∷ []) (indexed_apart receipts p a ps apart)
    ∙ ap (λ (x : Indexed (List Counts)). indexed_at receipts ps ++ x ∷ [])
    (ap (λ (a : Receipt). a.indexed) (get_or-set_same receipts p a nowhere lt) ∙ is)
    ∙ sym (added (indexed_at receipts ps) out)
  where
    added : (xs : List (Indexed (List Counts))) → is_in p (indices_of xs) ≡ false
        → with_index p n xs ≡ xs ++ record { index = p; what = replicate n [] } ∷ []
    added xs e = rw e refl
