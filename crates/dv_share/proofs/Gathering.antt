-- What is gathered of deliveries by index, one after the other.
use Rattle.std.proofs.Common.{◌≡◌, ◌⊎◌, inl, inr, ℕ, zero, suc, ◌+◌, ◌<◌, ◌≤◌, Bool, true, false, ◌||◌, cond, nat_eq, List, [], ◌∷◌}
use Rattle.std.proofs.Common.{◌++◌, length, get_or, set, map, replicate, IsPermutation, IsTrue, Some, refl, sym, ap, ◌∙◌, subst, arith}
use Rattle.std.specs.List.{All, slice_get}
use Rattle.std.proofs.lemmas.Bool.{cases_lt, eq-eqb, eqb-true}
use Rattle.std.proofs.lemmas.List.{map-append, get_or-map, length-map}
use Rattle.std.proofs.lemmas.List.Elements.{All-push}
use Rattle.std.proofs.lemmas.List.Sorted.{All-permutation, sum_by-IsPermutation, IsPermutation-map}
use Rattle.std.proofs.lemmas.List.Sums.{sum_by-cons, sum_by_push}
use Rattle.std.proofs.lemmas.Option.{same_Some, slice_get-get_or, slice_get_within}
use Rattle.dv_bag.specs.Bag.{Counts, bag_at, with_copies}
use Rattle.dv_devs.specs.Behaviour.{all_empty}
use Rattle.dv_conservative.specs.Links.{Delivery as Meant}
use Rattle.dv_share.specs.Indices.{AreRising, RiseFrom, is_in, indices_of}
use Rattle.dv_share.specs.Received.{AreGathered, count_in, with_delivery_at, with_index}
use Rattle.dv_share.specs.Share.{AreAmong, AreReceived, inbox_of, numbers_of}
use Rattle.dv_share.specs.declared.index.Indexed.{Indexed}
use Rattle.dv_share.specs.declared.tables.Member.{Member}
use Rattle.dv_share.proofs.Inboxes.{inbox_length, inbox_missed, inbox_nothing, inbox_step}
use Rattle.dv_share.proofs.Order.{rise_at}
use Rattle.dv_share.proofs.Indices.{in_push, yes_or_no}

false_true : false ≡ true → ⊥
false_true h = cc

-- components of the same number stand at the same index
pub same_index : (ms : List Member) (p q : ℕ) (m n : Member) → AreRising (numbers_of ms) → slice_get ms p ≡ Some m → slice_get ms q ≡ Some n
    → m.number ≡ n.number → p ≡ q
same_index ms p q m n up at-m at-n same =
    let number = λ (m : Member). m.number in
    let here = ap number (same_Some _ m (sym (slice_get-get_or ms p m (slice_get_within ms p m at-m)) ∙ at-m)) in
    let there = ap number (same_Some _ n (sym (slice_get-get_or ms q m (slice_get_within ms q n at-n)) ∙ at-n)) in
    elim (cases_lt p q) [
      | inl less ↦ absurd (omega (arith, rise_at number 0 ms p q m up less (slice_get_within ms q n at-n), here, there, same))
      | inr ge ↦ elim (cases_lt q p) [
        | inl less ↦ absurd (omega (arith, rise_at number 0 ms q p m up less (slice_get_within ms p m at-m), here, there, same))
        | inr le ↦ omega (arith, ge, le)
      ]
    ]

abbrev pub one_if : Bool → ℕ
one_if t = cond t 1 0

-- how often a number is in a list with one more
pub count_push : (p q : ℕ) (ps : List ℕ) → count_in p (ps ++ q ∷ []) ≡ count_in p ps + one_if (nat_eq q p)
count_push p q ps = sum_by_push (λ (q : ℕ). one_if (nat_eq q p)) ps q

pub count_cons : (p q : ℕ) (ps : List ℕ) → count_in p (q ∷ ps) ≡ one_if (nat_eq q p) + count_in p ps
count_cons p q ps = sum_by-cons (λ (q : ℕ). one_if (nat_eq q p)) q ps

-- what is in a list is there once and more, and what is not is not there at all
pub counted_none : (p : ℕ) (ps : List ℕ) → is_in p ps ≡ false → count_in p ps ≡ 0
counted_none p [] h = refl
counted_none p (q ∷ ps) h = elim (yes_or_no (nat_eq q p)) [
  | inl e ↦ absurd (false_true (sym (rw e at h)))
  | inr e ↦ omega (arith, count_cons p q ps, ap one_if e, counted_none p ps (rw e at h))
]

pub counted_some : (p : ℕ) (ps : List ℕ) → is_in p ps ≡ true → 1 ≤ count_in p ps
counted_some p [] h = absurd (false_true h)
counted_some p (q ∷ ps) h = elim (yes_or_no (nat_eq q p)) [
  | inl e ↦ omega (arith, count_cons p q ps, ap one_if e)
  | inr e ↦ omega (arith, count_cons p q ps, ap one_if e, counted_some p ps (rw e at h))
]

-- numbers that do not fall, each of which is there once, rise
pub rise_by_counts : (low : ℕ) (ps : List ℕ) → ((k : ℕ) (d : ℕ) → k < length ps → low ≤ get_or ps k d)
    → ((k : ℕ) (d : ℕ) → suc k < length ps → get_or ps k d ≤ get_or ps (suc k) d) → ((p : ℕ) → count_in p ps ≤ 1) → RiseFrom low ps
rise_by_counts low [] least sorted once = tt
rise_by_counts low (p ∷ ps) least sorted once = (
  least 0 0 (omega arith),
  rise_by_counts (suc p) ps above (λ k d lt. sorted (suc k) d (omega (arith, lt)))
      (λ q. omega (arith, once q, count_cons q p ps)),
)
  where
    -- no other is p, and none is less
    from : (k : ℕ) (d : ℕ) → k < length ps → p ≤ get_or ps k d
    from zero d lt = sorted 0 d (omega (arith, lt))
    from (suc k) d lt = let before = from k d (omega (arith, lt)) in
        let next = sorted (suc k) d (omega (arith, lt)) in
        omega (arith, before, next)

    found_in : (qs : List ℕ) (k : ℕ) (d : ℕ) → k < length qs → is_in (get_or qs k d) qs ≡ true
    found_in [] k d lt = absurd (omega (arith, lt))
    found_in (q ∷ qs) zero d lt = rw (eq-eqb q q refl) refl
    found_in (q ∷ qs) (suc k) d lt = rw (found_in qs k d (omega (arith, lt))) (either (nat_eq q (get_or qs k d)))
      where
        either : (t : Bool) → (t || true) ≡ true
        either true = refl
        either false = refl

    above : (k : ℕ) (d : ℕ) → k < length ps → suc p ≤ get_or ps k d
    above k d lt = elim (cases_lt p (get_or ps k d)) [
      | inl less ↦ omega (arith, less)
      | inr ge ↦
          let same : get_or ps k d ≡ p = omega (arith, ge, from k d lt) in
          let again = counted_some p ps (subst (λ (q : ℕ). is_in q ps ≡ true) same (found_in ps k d lt)) in
          let all = once p in
          let first = ap one_if (eq-eqb p p refl) in
          absurd (omega (arith, again, all, count_cons p p ps, first))
    ]

-- nothing is gathered where nothing came
pub gathered_new : (ms : List Member) → AreGathered ms [] []
gathered_new ms = record {
  within = λ i x lt. absurd (omega (arith, lt));
  bags = λ i x lt. absurd (omega (arith, lt));
  rest = λ p m at out. inbox_nothing m.number 0 m.inputs;
}

indices_push : (p : ℕ) (what : List Counts) (xs : List (Indexed (List Counts)))
    → indices_of (xs ++ record { index = p; what = what } ∷ []) ≡ indices_of xs ++ p ∷ []
indices_push p what xs = map-append (λ (x : Indexed (List Counts)). x.index) xs (record { index = p; what = what } ∷ [])

neither : (t u : Bool) → (t || u) ≡ false → (t ≡ false) × (u ≡ false)
neither true u h = absurd (false_true (sym h))
neither false u h = (refl, h)

-- what stands at one index more
pub gathered_met : (ms : List Member) (ds : List Meant) (p : ℕ) (m : Member) (xs : List (Indexed (List Counts))) → slice_get ms p ≡ Some m →
    AreGathered ms ds xs → AreGathered ms ds (with_index p m.inputs xs)
gathered_met ms ds p m xs at h = elim (yes_or_no (is_in p (indices_of xs))) [
  | inl e ↦ rw e h
  | inr e ↦ rw e (record {
    within = All-push (λ (x : Indexed (List Counts)). x.index < length ms) xs (record { index = p; what = replicate m.inputs [] }) h.within
        (slice_get_within ms p m at);
    bags =
        All-push (λ (x : Indexed (List Counts)). (n : Member) → slice_get ms x.index ≡ Some n → x.what ≡ inbox_of n ds) xs
        (record { index = p; what = replicate m.inputs [] }) h.bags
        (λ n at-n.
        let same : m ≡ n = same_Some m n (sym at ∙ at-n) in
        sym (h.rest p n at-n e ∙ ap (λ (m : Member). replicate m.inputs []) (sym same)));
    rest = λ q n at-n out.
        h.rest q n at-n (neither (is_in q (indices_of xs)) (nat_eq p q)
        (sym (ap (is_in q) (indices_push p (replicate m.inputs []) xs) ∙ in_push q p (indices_of xs)) ∙ out)).0;
  })
]

either_or : (t : Bool) → (t || true) ≡ true
either_or true = refl
either_or false = refl

-- the indices are those that were there, and the one
pub among_met : (p n : ℕ) (xs : List (Indexed (List Counts))) → AreAmong (indices_of xs) (indices_of (with_index p n xs))
among_met p n xs q here = elim (yes_or_no (is_in p (indices_of xs))) [
  | inl e ↦ rw e here
  | inr e ↦ rw e (ap (is_in q) (indices_push p (replicate n []) xs) ∙ in_push q p (indices_of xs) ∙ rw here refl)
]

pub is_met : (p n : ℕ) (xs : List (Indexed (List Counts))) → IsTrue (is_in p (indices_of (with_index p n xs)))
is_met p n xs = elim (yes_or_no (is_in p (indices_of xs))) [
  | inl e ↦ rw e e
  | inr e ↦ rw e (ap (is_in p) (indices_push p (replicate n []) xs) ∙ in_push p p (indices_of xs)
      ∙ rw (eq-eqb p p refl) (either_or (is_in p (indices_of xs))))
]

-- a delivery that is for no port of these components
pub gathered_missed : (ms : List Member) (ds : List Meant) (d : Meant) (xs : List (Indexed (List Counts))) →
    ((p : ℕ) (m : Member) → slice_get ms p ≡ Some m → m.number ≡ d.component → d.port < m.inputs → ⊥) → AreGathered ms ds xs
    → AreGathered ms (ds ++ d ∷ []) xs
gathered_missed ms ds d xs none h = record {
  within = h.within;
  bags = λ i x lt m at. h.bags i x lt m at ∙ sym (same (get_or xs i x).index m at);
  rest = λ p m at out. same p m at ∙ h.rest p m at out;
}
  where
    same : (p : ℕ) (m : Member) → slice_get ms p ≡ Some m → inbox_of m (ds ++ d ∷ []) ≡ inbox_of m ds
    same p m at = inbox_missed m.number ds d 0 m.inputs
        (λ port le lt own e. none p m at (sym own) (omega (arith, lt, e)))

indices_kept : (p : ℕ) (d : Meant) (xs : List (Indexed (List Counts))) → indices_of (map (with_delivery_at p d) xs) ≡ indices_of xs
indices_kept p d [] = refl
indices_kept p d (x ∷ xs) =
    ap (λ (q : ℕ). q ∷ indices_of (map (with_delivery_at p d) xs)) (kept (nat_eq x.index p))
    ∙ ap (λ (qs : List ℕ). x.index ∷ qs) (indices_kept p d xs)
  where
    kept : (t : Bool) → (cond t (record { index = x.index; what = set x.what d.port (with_copies d.value d.copies (bag_at x.what d.port)) }) x).index
        ≡ x.index
    kept true = refl
    kept false = refl

pub among_put : (p : ℕ) (d : Meant) (xs : List (Indexed (List Counts))) → AreAmong (indices_of xs) (indices_of (map (with_delivery_at p d) xs))
among_put p d xs q here = ap (is_in q) (indices_kept p d xs) ∙ here

-- a delivery for a port of a component whose index is there
pub gathered_put : (ms : List Member) (ds : List Meant) (d : Meant) (p : ℕ) (m : Member) (xs : List (Indexed (List Counts))) →
    AreRising (numbers_of ms) → slice_get ms p ≡ Some m → m.number ≡ d.component → d.port < m.inputs
    → IsTrue (is_in p (indices_of xs)) → AreGathered ms ds xs
    → AreGathered ms (ds ++ d ∷ []) (map (with_delivery_at p d) xs)
gathered_put ms ds d p m xs up at number lt here h = record {
  within = λ i x less.
      let early : i < length xs = subst (λ n. i < n) (length-map xs (with_delivery_at p d)) less in
      subst (λ (y : Indexed (List Counts)). y.index < length ms) (sym (get_or-map (with_delivery_at p d) xs i x x early))
      (subst (λ q. q < length ms) (sym (index_kept (get_or xs i x))) (h.within i x early));
  bags = λ i x less n at-n.
      let early : i < length xs = subst (λ n. i < n) (length-map xs (with_delivery_at p d)) less in
      let is = get_or-map (with_delivery_at p d) xs i x x early in
      ap (λ (y : Indexed (List Counts)). y.what) is
      ∙ put_here (get_or xs i x) n
      (sym (ap (slice_get ms) (ap (λ (y : Indexed (List Counts)). y.index) is ∙ index_kept (get_or xs i x))) ∙ at-n)
      (h.bags i x early n);
  rest = λ q n at-n out.
      let before : is_in q (indices_of xs) ≡ false = sym (ap (is_in q) (indices_kept p d xs)) ∙ out in
      missed q n at-n (λ same. false_true (sym before ∙ subst (λ r. is_in r (indices_of xs) ≡ true) (sym same) here))
      ∙ h.rest q n at-n before;
}
  where
    index_kept : (x : Indexed (List Counts)) → (with_delivery_at p d x).index ≡ x.index
    index_kept x = kept (nat_eq x.index p)
      where
        kept : (t : Bool)
            → (cond t (record { index = x.index; what = set x.what d.port (with_copies d.value d.copies (bag_at x.what d.port)) }) x).index
            ≡ x.index
        kept true = refl
        kept false = refl

    -- the delivery is for no other component
    missed : (q : ℕ) (n : Member) → slice_get ms q ≡ Some n → (q ≡ p → ⊥) → inbox_of n (ds ++ d ∷ []) ≡ inbox_of n ds
    missed q n at-n apart = inbox_missed n.number ds d 0 n.inputs
        (λ port le less own e. apart (same_index ms q p n m up at-n at (sym own ∙ sym number)))

    put_here : (x : Indexed (List Counts)) (n : Member) → slice_get ms x.index ≡ Some n
        → (slice_get ms x.index ≡ Some n → x.what ≡ inbox_of n ds) →
        (with_delivery_at p d x).what ≡ inbox_of n (ds ++ d ∷ [])
    put_here x n at-n is = elim (yes_or_no (nat_eq x.index p)) [
      | inl e ↦
          let same : m ≡ n = same_Some m n (sym at ∙ ap (slice_get ms) (sym (eqb-true x.index p e)) ∙ at-n) in
          let own : d.component ≡ n.number = sym number ∙ ap (λ (m : Member). m.number) same in
          rw e (ap (λ (bags : List Counts). set bags d.port (with_copies d.value d.copies (get_or bags d.port []))) (is at-n)
          ∙ sym (inbox_step n.number ds d 0 n.inputs d.port own (omega arith)))
      | inr e ↦ rw e (is at-n ∙ sym (missed x.index n at-n (λ same. false_true (sym e ∙ eq-eqb x.index p same))))
    ]

-- the bags of a component at whose index something stands have its ports
pub ports_there : (ms : List Member) (ds : List Meant) (p : ℕ) (m : Member) (port : ℕ) (xs : List (Indexed (List Counts))) →
    slice_get ms p ≡ Some m → port < m.inputs → AreGathered ms ds xs
    → All (λ (x : Indexed (List Counts)). x.index ≡ p → port < length x.what) xs
ports_there ms ds p m port xs at lt h i x early same =
    let is = h.bags i x early m (ap (slice_get ms) same ∙ at) in
    omega (arith, lt, ap length is, inbox_length m.number ds 0 m.inputs)

-- what is gathered, in the order of indices, is received
pub gathered_all : (ms : List Member) (ds : List Meant) (xs ys : List (Indexed (List Counts))) → AreRising (indices_of ys) → IsPermutation xs ys
    → AreGathered ms ds xs → AreReceived ms ds ys
gathered_all ms ds xs ys up same h = record {
  indices = record {
    rise = up;
    within = All-permutation (λ (x : Indexed (List Counts)). x.index < length ms) xs ys same h.within;
  };
  bags = All-permutation (λ (x : Indexed (List Counts)). (m : Member) → slice_get ms x.index ≡ Some m → x.what ≡ inbox_of m ds) xs ys same h.bags;
  rest = λ p m at out. subst (λ (bags : List Counts). IsTrue (all_empty bags))
      (sym (h.rest p m at (moved_out p (yes_or_no (is_in p (indices_of xs))) out))) (empty m.inputs);
}
  where
    empty : (n : ℕ) → IsTrue (all_empty (replicate n []))
    empty zero = refl
    empty (suc n) = empty n

    moved : (p : ℕ) → count_in p (indices_of ys) ≡ count_in p (indices_of xs)
    moved p = sum_by-IsPermutation (λ (q : ℕ). one_if (nat_eq q p)) (indices_of xs) (indices_of ys)
        (IsPermutation-map (λ (x : Indexed (List Counts)). x.index) xs ys same)

    moved_out : (p : ℕ) → (is_in p (indices_of xs) ≡ true) ⊎ (is_in p (indices_of xs) ≡ false) → is_in p (indices_of ys) ≡ false
        → is_in p (indices_of xs) ≡ false
    moved_out p (inr e) out = e
    moved_out p (inl e) out =
        absurd (omega (arith, counted_some p (indices_of xs) e, counted_none p (indices_of ys) out, moved p))

pub among_moved : (xs ys : List (Indexed (List Counts))) → IsPermutation xs ys → AreAmong (indices_of xs) (indices_of ys)
among_moved xs ys same p here = elim (yes_or_no (is_in p (indices_of ys))) [
  | inl e ↦ e
  | inr out ↦
      let moved = sum_by-IsPermutation (λ (q : ℕ). one_if (nat_eq q p)) (indices_of xs) (indices_of ys)
      (IsPermutation-map (λ (x : Indexed (List Counts)). x.index) xs ys same) in
      absurd (omega (arith, counted_some p (indices_of xs) here, counted_none p (indices_of ys) out, moved))
]

pub among_all : (ps qs rs : List ℕ) → AreAmong ps qs → AreAmong qs rs → AreAmong ps rs
among_all ps qs rs one two p here = two p (one p here)
