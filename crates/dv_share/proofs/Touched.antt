-- Indices at which something was emitted or a value comes, and how many they are.
use Rattle.std.proofs.Common.{◌≡◌, ◌⊎◌, inl, inr, ℕ, zero, suc, ◌+◌, ◌<◌, ◌≤◌, Bool, true, false, not, ◌&&◌, ◌||◌, cond, nat_eq, List, []}
use Rattle.std.proofs.Common.{◌∷◌, ◌++◌, length, get_or, set, map, replicate, IsPermutation, IsTrue, Some, refl, sym, ap, ◌∙◌, subst}
use Rattle.std.proofs.Common.{arith}
use Rattle.std.specs.List.{All, count_by, slice_get}
use Rattle.std.proofs.lemmas.Bool.{eq-eqb, eqb-true}
use Rattle.std.proofs.lemmas.List.Elements.{All-push}
use Rattle.std.proofs.lemmas.List.Sorted.{All-permutation}
use Rattle.std.proofs.lemmas.List.Sums.{sum_by-cons}
use Rattle.dv_bag.specs.Bag.{Counts, bag_at, size, with_copies}
use Rattle.dv_bag.proofs.PortBags.{some_new}
use Rattle.dv_devs.specs.Behaviour.{Behaviour, all_empty}
use Rattle.dv_conservative.specs.Flat.{received as received_by}
use Rattle.dv_conservative.specs.Links.{Delivery as Meant, inbox, taken}
use Rattle.dv_share.specs.Indices.{RiseFrom, is_in, indices_of}
use Rattle.dv_share.specs.Received.{AreGathered, with_delivery_at, with_index}
use Rattle.dv_share.specs.Share.{AreReceived, AreTouched, inbox_of, member_by}
use Rattle.dv_share.specs.declared.index.Indexed.{Indexed}
use Rattle.dv_share.specs.declared.tables.Member.{Member}
use Rattle.dv_share.proofs.Emissions.{map_all}
use Rattle.dv_share.proofs.Inboxes.{delivered_more, inbox_same}
use Rattle.dv_share.proofs.Indices.{all_first, all_rest, differ, yes_or_no}

-- a delivery without copies brings nothing
inbox_none : (k : ℕ) (ds : List Meant) (d : Meant) (a n : ℕ) → d.copies ≡ 0 → inbox k (ds ++ d ∷ []) a n ≡ inbox k ds a n
inbox_none k ds d a n e = inbox_same k (ds ++ d ∷ []) ds a n (λ port. delivered_more k port ds d ∙ nothing port _)
  where
    by_test : (t : Bool) (bag : Counts) → cond t (with_copies d.value d.copies bag) bag ≡ bag
    by_test true bag = ap (λ (n : ℕ). with_copies d.value n bag) e
    by_test false bag = refl

    nothing : (port : ℕ) (bag : Counts) → taken k port d bag ≡ bag
    nothing port bag = by_test (nat_eq d.component k && nat_eq d.port port) bag

pub gathered_none : (ms : List Member) (ds : List Meant) (d : Meant) (xs : List (Indexed (List Counts))) → d.copies ≡ 0
    → AreGathered ms ds xs → AreGathered ms (ds ++ d ∷ []) xs
gathered_none ms ds d xs none h = record {
  within = h.within;
  bags = λ i x lt m at. h.bags i x lt m at ∙ sym (inbox_none m.number ds d 0 m.inputs none);
  rest = λ p m at out. inbox_none m.number ds d 0 m.inputs none ∙ h.rest p m at out;
}

either_or : (t : Bool) → (t || true) ≡ true
either_or true = refl
either_or false = refl

and_no : (t : Bool) → (t && false) ≡ false
and_no true = refl
and_no false = refl

-- bags of which one is not empty are not empty
one_holds : (bags : List Counts) (i : ℕ) (b : Counts) → i < length bags → nat_eq (size b) 0 ≡ false → all_empty (set bags i b) ≡ false
one_holds [] i b lt some = absurd (omega (arith, lt))
one_holds (c ∷ bags) zero b lt some = rw some refl
one_holds (c ∷ bags) (suc i) b lt some = rw (one_holds bags i b (omega (arith, lt)) some) (and_no (nat_eq (size c) 0))

some_come : (d : Meant) (b : Counts) → 0 < d.copies → nat_eq (size (with_copies d.value d.copies b)) 0 ≡ false
some_come d b some =
    let more = some_new d.value d.copies b some in
    differ (size (with_copies d.value d.copies b)) 0 (λ e. absurd (omega (arith, more, e)))

abbrev is_touched : List ℕ → Indexed (List Counts) → Bool
is_touched ps x = is_in x.index ps || not (all_empty x.what)

-- the index of an item is one of the indices
pub itself_in : {X : Type 0} (xs : List (Indexed X)) (i : ℕ) (d : Indexed X) → i < length xs → is_in (get_or xs i d).index (indices_of xs) ≡ true
itself_in [] i d lt = absurd (omega (arith, lt))
itself_in (x ∷ xs) zero d lt = rw (eq-eqb x.index x.index refl) refl
itself_in (x ∷ xs) (suc i) d lt = rw (itself_in xs i d (omega (arith, lt))) (either_or (nat_eq x.index (get_or xs i d).index))

-- an index at which something was emitted
pub touched_met : (ps : List ℕ) (p n : ℕ) (xs : List (Indexed (List Counts))) → IsTrue (is_in p ps) → AreTouched ps xs
    → AreTouched ps (with_index p n xs)
touched_met ps p n xs here h = elim (yes_or_no (is_in p (indices_of xs))) [
  | inl e ↦ rw e h
  | inr e ↦ rw e (All-push (λ (x : Indexed (List Counts)). IsTrue (is_touched ps x)) xs (record { index = p; what = replicate n [] }) h
      (rw here refl))
]

abbrev is_here : List ℕ → ℕ → Indexed (List Counts) → Bool
is_here ps p x = nat_eq x.index p || is_touched ps x

-- an index at which a delivery comes
pub touched_put : (ps : List ℕ) (p n : ℕ) (d : Meant) (xs : List (Indexed (List Counts))) → 0 < d.copies
    → All (λ (x : Indexed (List Counts)). x.index ≡ p → d.port < length x.what) (with_index p n xs) → AreTouched ps xs
    → AreTouched ps (map (with_delivery_at p d) (with_index p n xs))
touched_put ps p n d xs some ports h =
    map_all (with_delivery_at p d) (λ (x : Indexed (List Counts)). IsTrue (is_touched ps x)) (with_index p n xs)
    (λ k x lt. one (get_or (with_index p n xs) k x) (ports k x lt) (before (yes_or_no (is_in p (indices_of xs))) k x lt))
  where
    before : (is_in p (indices_of xs) ≡ true) ⊎ (is_in p (indices_of xs) ≡ false)
        → All (λ (x : Indexed (List Counts)). IsTrue (is_here ps p x)) (with_index p n xs)
    before (inl e) = rw e (λ k x lt. ap (λ (t : Bool). nat_eq (get_or xs k x).index p || t) (h k x lt) ∙ either_or _)
    before (inr e) = rw e (All-push (λ (x : Indexed (List Counts)). IsTrue (is_here ps p x)) xs (record { index = p; what = replicate n [] })
        (λ k x lt. ap (λ (t : Bool). nat_eq (get_or xs k x).index p || t) (h k x lt) ∙ either_or _) (rw (eq-eqb p p refl) refl))

    one : (x : Indexed (List Counts)) → (x.index ≡ p → d.port < length x.what) → IsTrue (is_here ps p x) → IsTrue (is_touched ps (with_delivery_at p d x))
    one x port was = elim (yes_or_no (nat_eq x.index p)) [
      | inl e ↦
          rw e (ap (λ (t : Bool). is_in x.index ps || not t)
          (one_holds x.what d.port (with_copies d.value d.copies (bag_at x.what d.port)) (port (eqb-true x.index p e))
          (some_come d (bag_at x.what d.port) some))
          ∙ either_or (is_in x.index ps))
      | inr e ↦ rw e (rw e at was)
    ]

pub touched_moved : (ps : List ℕ) (xs ys : List (Indexed (List Counts))) → IsPermutation xs ys → AreTouched ps xs → AreTouched ps ys
touched_moved ps xs ys same h = All-permutation (λ (x : Indexed (List Counts)). IsTrue (is_touched ps x)) xs ys same h

abbrev one_if : Bool → ℕ
one_if t = cond t 1 0

one_more : {X : Type 0} (p : X → Bool) (x : X) (xs : List X) → count_by p (x ∷ xs) ≡ cond (p x) 1 0 + count_by p xs
one_more p x xs = sum_by-cons (λ y. cond (p y) 1 0) x xs

abbrev has_values : List Counts → Bool
has_values bags = not (all_empty bags)

either_counts : (t u : Bool) → IsTrue (t || u) → 1 ≤ cond t 1 0 + cond u 1 0
either_counts true u h = omega arith
either_counts false true h = omega arith
either_counts false false h = absurd (cc)

-- each of the indices is counted where something was emitted, or where a value comes
by_parts : (ps : List ℕ) (xs : List (Indexed (List Counts))) → AreTouched ps xs →
    length xs ≤ count_by (λ (x : Indexed (List Counts)). is_in x.index ps) xs + count_by (λ (x : Indexed (List Counts)). has_values x.what) xs
by_parts ps [] h = omega arith
by_parts ps (x ∷ xs) h =
    let T : Indexed (List Counts) → Type 0 = λ x. IsTrue (is_touched ps x) in
    omega (
      arith,
      one_more (λ (x : Indexed (List Counts)). is_in x.index ps) x xs,
      one_more (λ (x : Indexed (List Counts)). has_values x.what) x xs,
      either_counts (is_in x.index ps) (has_values x.what) (all_first T x xs h),
      by_parts ps xs (all_rest T x xs h),
    )

-- none of the indices that rise is below the first
none_below : (low p : ℕ) (xs : List (Indexed (List Counts))) → RiseFrom low (indices_of xs) → p < low
    → count_by (λ (x : Indexed (List Counts)). nat_eq p x.index) xs ≡ 0
none_below low p [] up lt = refl
none_below low p (x ∷ xs) up lt =
    let least = up.0 in
    omega (
      arith,
      one_more (λ (x : Indexed (List Counts)). nat_eq p x.index) x xs,
      ap one_if (differ p x.index (λ e. absurd (omega (arith, e, least, lt)))),
      none_below (suc x.index) p xs up.1 (omega (arith, lt, least)),
    )

-- each of them is there once
once : (low p : ℕ) (xs : List (Indexed (List Counts))) → RiseFrom low (indices_of xs)
    → count_by (λ (x : Indexed (List Counts)). nat_eq p x.index) xs ≤ 1
once low p [] up = omega arith
once low p (x ∷ xs) up =
    let more = one_more (λ (x : Indexed (List Counts)). nat_eq p x.index) x xs in
    elim (yes_or_no (nat_eq p x.index)) [
      | inl e ↦
          let same : p ≡ x.index = eqb-true p x.index e in
          omega (arith, more, ap one_if e, none_below (suc x.index) p xs up.1 (omega (arith, same)))
      | inr e ↦ omega (arith, more, ap one_if e, once (suc x.index) p xs up.1)
    ]

-- as many of them are among some numbers as there are numbers, at most
among_few : (ps : List ℕ) (xs : List (Indexed (List Counts))) → RiseFrom 0 (indices_of xs)
    → count_by (λ (x : Indexed (List Counts)). is_in x.index ps) xs ≤ length ps
among_few [] xs up = none xs
  where
    none : (ys : List (Indexed (List Counts))) → count_by (λ (x : Indexed (List Counts)). is_in x.index []) ys ≤ 0
    none [] = omega arith
    none (y ∷ ys) = omega (arith, one_more (λ (x : Indexed (List Counts)). is_in x.index []) y ys, none ys)
among_few (p ∷ ps) xs up = omega (arith, split xs, once 0 p xs up, among_few ps xs up)
  where
    by_test : (t u : Bool) → cond (t || u) 1 0 ≤ cond t 1 0 + cond u 1 0
    by_test true u = omega arith
    by_test false u = omega arith

    split : (ys : List (Indexed (List Counts))) → count_by (λ (x : Indexed (List Counts)). is_in x.index (p ∷ ps)) ys
        ≤ count_by (λ (x : Indexed (List Counts)). nat_eq p x.index) ys + count_by (λ (x : Indexed (List Counts)). is_in x.index ps) ys
    split [] = omega arith
    split (y ∷ ys) =
        omega (
          arith,
          one_more (λ (x : Indexed (List Counts)). is_in x.index (p ∷ ps)) y ys,
          one_more (λ (x : Indexed (List Counts)). nat_eq p x.index) y ys,
          one_more (λ (x : Indexed (List Counts)). is_in x.index ps) y ys,
          by_test (nat_eq p y.index) (is_in y.index ps),
          split ys,
        )

module _ {S : Type 0} (behaviour : S → Behaviour) (limit : ℕ) (models : List S) (ds : List Meant) where
  -- values come to no more indices than components
  values_few : (q : ℕ) (ms : List Member) (xs : List (Indexed (List Counts))) → RiseFrom q (indices_of xs)
      → All (λ (x : Indexed (List Counts)). x.index < q + length ms) xs
      → All (λ (x : Indexed (List Counts)). (i : ℕ) (m : Member) → x.index ≡ q + i → slice_get ms i ≡ Some m → x.what ≡ inbox_of m ds) xs
      → count_by (λ (x : Indexed (List Counts)). has_values x.what) xs
      ≤ count_by has_values (received_by (map (member_by behaviour limit models) ms) ds)
  values_few q ms [] up within bags = omega arith
  values_few q [] (x ∷ xs) up within bags =
      absurd (omega (arith, up.0, all_first (λ (x : Indexed (List Counts)). x.index < q + 0) x xs within))
  values_few q (m ∷ ms) (x ∷ xs) up within bags =
      let all : List (List Counts) = received_by (map (member_by behaviour limit models) ms) ds in
      let next : q + length (m ∷ ms) ≡ suc q + length ms = omega arith in
      let below : All (λ (x : Indexed (List Counts)). x.index < suc q + length ms) (x ∷ xs) =
      subst (λ (n : ℕ). All (λ (x : Indexed (List Counts)). x.index < n) (x ∷ xs)) next within in
      let Made : Indexed (List Counts) → Type 0 =
      λ x. (i : ℕ) (m : Member) → x.index ≡ suc q + i → slice_get ms i ≡ Some m → x.what ≡ inbox_of m ds in
      let made : All Made (x ∷ xs) = λ k y lt i n at is. bags k y lt (suc i) n (omega (arith, at)) is in
      let here = one_more has_values (inbox_of m ds) all in
      elim (yes_or_no (nat_eq x.index q)) [
        | inl e ↦
            let same : x.index ≡ q = eqb-true x.index q e in
            let what : x.what ≡ inbox_of m ds =
            all_first (λ (x : Indexed (List Counts)). (i : ℕ) (n : Member) → x.index ≡ q + i → slice_get (m ∷ ms) i ≡ Some n
            → x.what ≡ inbox_of n ds) x xs bags 0 m (omega (arith, same)) refl in
            omega (
              arith,
              here,
              one_more (λ (x : Indexed (List Counts)). has_values x.what) x xs,
              ap (λ (b : List Counts). one_if (has_values b)) what,
              values_few (suc q) ms xs (subst (λ (p : ℕ). RiseFrom (suc p) (indices_of xs)) same up.1)
                  (all_rest (λ (x : Indexed (List Counts)). x.index < suc q + length ms) x xs below) (all_rest Made x xs made),
            )
        | inr e ↦
            let least = up.0 in
            let apart : x.index ≡ q → ⊥ = λ s. false_true (sym e ∙ eq-eqb x.index q s) in
            omega (arith, here, values_few (suc q) ms (x ∷ xs) (above apart least, up.1) below made)
      ]
    where
      false_true : false ≡ true → ⊥
      false_true h = cc

      above : (x.index ≡ q → ⊥) → q ≤ x.index → suc q ≤ x.index
      above apart least = omega (arith, apart, least)

  -- where each index was touched they are no more than the emissions and the components to which a value comes
  pub touched_few : (ms : List Member) (ps : List ℕ) (xs : List (Indexed (List Counts))) → AreReceived ms ds xs → AreTouched ps xs
      → length xs ≤ length ps + count_by has_values (received_by (map (member_by behaviour limit models) ms) ds)
  touched_few ms ps xs are touched =
      omega (
        arith,
        by_parts ps xs touched,
        among_few ps xs are.indices.rise,
        values_few 0 ms xs are.indices.rise (λ k x lt. omega (arith, are.indices.within k x lt))
            (λ k x lt i m at is. are.bags k x lt m (ap (slice_get ms) (from_zero _ i at) ∙ is)),
      )
    where
      from_zero : (p i : ℕ) → p ≡ 0 + i → p ≡ i
      from_zero p i e = omega (arith, e)
