-- A bag as its ascending pairs: where a value stands, and what an edit there does.
use Rattle.std.proofs.Common.{length-set, append-nil, ◌≡◌, ◌⊎◌, inl, inr, Bool, true, false, ℕ, suc, zero, ◌+◌, ◌-◌, ◌^◌}
use Rattle.std.proofs.Common.{◌<◌, ◌≤◌, List, [], ◌∷◌, length, get_or, set, ℤ, pos, ◌<ℤ◌, Result, Ok, Err, Some, IfOk, IfErr}
use Rattle.std.proofs.Common.{refl, sym, ap, ◌∙◌, subst, arith, cond, nat_eq}
use Rattle.std.specs.List.{insert, remove, refill}
use Rattle.std.specs.List.Sorted.{IsSearchInRange, IsBinarySearchResult, IsNonDecreasingBy}
use Rattle.std.specs.Ordering.{int_cmp, match_ordering, MatchOrdering, ordering_index}
use Rattle.std.specs.declared.cmp.Ordering.{Ordering}
use Rattle.std.specs.declared.cmp.Ordering.TheVariants.{Less, Equal, Greater}
use Rattle.std.proofs.lemmas.Cmp.{int_ranked, by_ranked}
use Rattle.std.proofs.lemmas.Int.{ints}
use Rattle.std.proofs.lemmas.Bool.{cases_lt}
use Rattle.std.proofs.lemmas.Bool.Decides.{nat_tests}
use Rattle.std.proofs.lemmas.List.{drop_all, take_all}
use Rattle.std.proofs.lemmas.List.Sorted.{IsNonDecreasingBy-from_default}
use Rattle.dv_bag.specs.Bag.{Counts, IsAbove, IsBag, capped, count_of, most, index_of, with_copies, with_some, without_one}

-- the index of a value that a bag has, or of the gap for it
abbrev pub IsPresent : ℤ → Counts → ℕ → Type 0
IsPresent v b index = (index ≡ index_of v b) × (index < length b) × (0 < count_of v b)

abbrev pub IsAbsent : ℤ → Counts → ℕ → Type 0
IsAbsent v b index = (index ≡ index_of v b) × (index ≤ length b) × (count_of v b ≡ 0)

-- what the order of a value to the first pair's gives: the value's count and index, some copies more, and one less
abbrev count_by : Ordering → ℤ → ℤ × ℕ → Counts → ℕ
count_by o v p ps = match_ordering o 0 p.1 (count_of v ps)

abbrev index_by : Ordering → ℤ → Counts → ℕ
index_by o v ps = match_ordering o 0 0 (suc (index_of v ps))

abbrev more_by : Ordering → ℤ → ℕ → ℤ × ℕ → Counts → Counts
more_by o v n p ps = match_ordering o ((v, capped n) ∷ p ∷ ps) ((p.0, capped (p.1 + n)) ∷ ps) (p ∷ with_some v n ps)

abbrev less_by : Ordering → Bool → ℤ → ℤ × ℕ → Counts → Counts
less_by o alone v p ps = match_ordering o (p ∷ ps) (cond alone ps ((p.0, p.1 - 1) ∷ ps)) (p ∷ without_one v ps)

-- one copy less of a value of which so many stand at an index
abbrev one_less_at : ℤ → Counts → ℕ → ℕ → Counts
one_less_at v b index copies = cond (nat_eq copies 1) (remove b index) (set b index (v, copies - 1))

-- the comparison of two numbers, from their order
pub cmp_less : (v w : ℤ) → v <ℤ w → int_cmp v w ≡ Less
cmp_less v w h =
    by_ranked _ _ _ (int_cmp v w) (int_ranked v w _ refl) (λ e p. e) (λ e p. absurd (omega (arith, ints)))
    (λ e p. absurd (omega (arith, ints)))

pub cmp_equal : (v w : ℤ) → v ≡ w → int_cmp v w ≡ Equal
cmp_equal v w h =
    by_ranked _ _ _ (int_cmp v w) (int_ranked v w _ refl) (λ e p. absurd (omega (arith, ints))) (λ e p. e)
    (λ e p. absurd (omega (arith, ints)))

pub cmp_greater : (v w : ℤ) → w <ℤ v → int_cmp v w ≡ Greater
cmp_greater v w h =
    by_ranked _ _ _ (int_cmp v w) (int_ranked v w _ refl) (λ e p. absurd (omega (arith, ints)))
    (λ e p. absurd (omega (arith, ints))) (λ e p. e)

-- what stands above a value is a bag
pub bag_from_above : (low : ℤ) (b : Counts) → IsAbove low b → IsBag b
bag_from_above low [] h = tt
bag_from_above low (p ∷ ps) h = (h.1, h.2, h.3)

pub above_lower : (low lower : ℤ) (b : Counts) → lower <ℤ low → IsAbove low b → IsAbove lower b
above_lower low lower [] lt h = tt
above_lower low lower (p ∷ ps) lt h = (omega (arith, ints, h.0), h.1, h.2, h.3)

abbrev pub value_at : Counts → ℕ → ℤ
value_at b i = let pair = get_or b i (pos 0, 0) in pair.0

abbrev pub copies_at : Counts → ℕ → ℕ
copies_at b i = let pair = get_or b i (pos 0, 0) in pair.1

pub above_first : (low : ℤ) (b : Counts) (i : ℕ) → IsAbove low b → i < length b → low <ℤ value_at b i
above_first low [] i h lt = absurd (omega arith)
above_first low (p ∷ ps) zero h lt = h.0
above_first low (p ∷ ps) (suc i) h lt =
    let next : p.0 <ℤ value_at ps i = above_first p.0 ps i h.3 (omega arith) in
    omega (arith, ints, h.0)

-- the values rise
pub values_rise : (b : Counts) → IsBag b → (i j : ℕ) → i < j → j < length b → value_at b i <ℤ value_at b j
values_rise [] h i j lt within = absurd (omega arith)
values_rise (p ∷ ps) h i zero lt within = absurd (omega arith)
values_rise (p ∷ ps) h zero (suc j) lt within = above_first p.0 ps j h.2 (omega arith)
values_rise (p ∷ ps) h (suc i) (suc j) lt within = values_rise ps (bag_from_above p.0 ps h.2) i j (omega arith) (omega arith)

-- the index of a value that is there
pub index_present : (v : ℤ) (b : Counts) → IsBag b → (i : ℕ) → i < length b → value_at b i ≡ v
    → (i ≡ index_of v b) × (0 < count_of v b)
index_present v [] h i within e = absurd (omega arith)
index_present v (p ∷ ps) h zero within e = rw (cmp_equal v p.0 (sym e)) (refl, h.0)
index_present v (p ∷ ps) h (suc i) within e =
    let above : p.0 <ℤ value_at ps i = above_first p.0 ps i h.2 (omega arith) in
    let rest = index_present v ps (bag_from_above p.0 ps h.2) i (omega arith) e in
    rw (cmp_greater v p.0 (subst (λ w. p.0 <ℤ w) e above)) (ap suc rest.0, rest.1)

-- the index of a value that is not there
pub index_absent : (v : ℤ) (b : Counts) → (i : ℕ) → i ≤ length b → ((j : ℕ) → j < i → value_at b j <ℤ v)
    → ((j : ℕ) → i ≤ j → j < length b → v <ℤ value_at b j) → (i ≡ index_of v b) × (count_of v b ≡ 0)
index_absent v [] i within below above = (omega arith, refl)
index_absent v (p ∷ ps) zero within below above = rw (cmp_less v p.0 (above 0 (omega arith) (omega arith))) (refl, refl)
index_absent v (p ∷ ps) (suc i) within below above =
    let rest =
    index_absent v ps i (omega arith) (λ j lt. below (suc j) (omega arith))
    (λ j le lt. above (suc j) (omega arith) (omega arith)) in
    rw (cmp_greater v p.0 (below 0 (omega arith))) (ap suc rest.0, rest.1)

at_most : (b : Counts) → IsBag b → (i j : ℕ) → i ≤ j → j < length b → (value_at b i <ℤ value_at b j) ⊎ (value_at b i ≡ value_at b j)
at_most b bag i j le within =
    elim (cases_lt i j) [ inl lt ↦ inl (values_rise b bag i j lt within) | inr ge ↦ inr (ap (value_at b) (omega arith)) ]

index_small : (o : Ordering) → ordering_index o ≤ ordering_index Greater
index_small Less = omega arith
index_small Equal = omega arith
index_small Greater = omega arith

index_rises : (v x y : ℤ) → (x <ℤ y) ⊎ (x ≡ y) → ordering_index (int_cmp x v) ≤ ordering_index (int_cmp y v)
index_rises v x y (inr e) = rw e (omega arith)
index_rises v x y (inl lt) = by_ranked _ _ _ (int_cmp y v) (int_ranked y v _ refl)
    (λ e below. rw (e, cmp_less x v (omega (arith, ints))) (omega arith))
    (λ e same. rw (e, cmp_less x v (omega (arith, ints))) (omega arith))
    (λ e above. rw e (index_small (int_cmp x v)))

module _ (b : Counts) (bag : IsBag b) (v : ℤ) where
  -- the comparisons with v rise along the bag, as a binary search asks
  comparisons_rise : IsNonDecreasingBy (λ pair. ordering_index (int_cmp pair.0 v)) b
  comparisons_rise =
      IsNonDecreasingBy-from_default (λ pair. ordering_index (int_cmp pair.0 v)) b (pos 0, 0)
      (λ i j le within. index_rises v (value_at b i) (value_at b j) (at_most b bag i j le within))

  -- a binary search by value ends at the value, or at the gap for it
  pub searched : (r : Result ℕ ℕ) → IsSearchInRange r (length b) → IsBinarySearchResult (λ pair. int_cmp pair.0 v) b r
      → record { found : IfOk r (IsPresent v b); absent : IfErr r (IsAbsent v b) }
  searched (Ok at) within equal =
      let here = index_present v b bag at within (int_ranked _ v _ (sym (equal (pos 0, 0)))) in
      record { found = (here.0, within, here.1); absent = tt }
  searched (Err at) within parted =
      let apart = parted comparisons_rise in
      let gap =
      index_absent v b at within (λ j lt. int_ranked _ v _ (sym (apart.0 j (pos 0, 0) (omega arith) lt)))
      (λ j le lt. int_ranked _ v _ (sym (apart.1 j (pos 0, 0) le lt))) in
      record { found = tt; absent = (gap.0, within, gap.1) }

-- a value above the last one goes in behind it, and one that is the same stands there
pub above_last : (v : ℤ) (b : Counts) → IsBag b → 1 ≤ length b → int_cmp (value_at b (length b - 1)) v ≡ Less → IsAbsent v b (length b)
above_last v b bag some order =
    let last = length b - 1 in
    let less : value_at b last <ℤ v = int_ranked (value_at b last) v Less (sym order) in
    let gap =
    index_absent v b (length b) (omega arith)
    (λ j lt.
    elim (at_most b bag j last (omega (arith, lt, some)) (omega (arith, some))) [
      | inl before ↦ omega (arith, ints, before, less)
      | inr same ↦ subst (λ (w : ℤ). w <ℤ v) (sym same) less
    ])
    (λ j le lt. absurd (omega (arith, le, lt))) in
    (gap.0, omega arith, gap.1)

pub at_last : (v : ℤ) (b : Counts) → IsBag b → 1 ≤ length b → int_cmp (value_at b (length b - 1)) v ≡ Equal → IsPresent v b (length b - 1)
at_last v b bag some order =
    let same : value_at b (length b - 1) ≡ v = int_ranked (value_at b (length b - 1)) v Equal (sym order) in
    let here = index_present v b bag (length b - 1) (omega (arith, some)) same in
    (here.0, omega (arith, some), here.1)

-- the pair at the index of a value that is there
pub copies_at_index : (v : ℤ) (b : Counts) → 0 < count_of v b → copies_at b (index_of v b) ≡ count_of v b
copies_at_index v [] h = absurd (omega arith)
copies_at_index v (p ∷ ps) h = step (int_cmp v p.0) h (copies_at_index v ps)
  where
    step : (o : Ordering) → 0 < count_by o v p ps → (0 < count_of v ps → copies_at ps (index_of v ps) ≡ count_of v ps)
        → copies_at (p ∷ ps) (index_by o v ps) ≡ count_by o v p ps
    step Less h rest = absurd (omega arith)
    step Equal h rest = refl
    step Greater h rest = rest h

-- more copies of a value that is there
pub with_some_present : (v : ℤ) (n : ℕ) (b : Counts) → 0 < count_of v b
    → with_some v n b ≡ set b (index_of v b) (v, capped (count_of v b + n))
with_some_present v n [] h = absurd (omega arith)
with_some_present v n (p ∷ ps) h = step (int_cmp v p.0) (int_ranked v p.0 _ refl) h (with_some_present v n ps)
  where
    step : (o : Ordering) → MatchOrdering o (v <ℤ p.0) (v ≡ p.0) (p.0 <ℤ v) → 0 < count_by o v p ps
        → (0 < count_of v ps → with_some v n ps ≡ set ps (index_of v ps) (v, capped (count_of v ps + n)))
        → more_by o v n p ps ≡ set (p ∷ ps) (index_by o v ps) (v, capped (count_by o v p ps + n))
    step Less m h rest = absurd (omega arith)
    step Equal m h rest = ap (λ (w : ℤ). (w, capped (p.1 + n)) ∷ ps) (sym m)
    step Greater m h rest = ap (λ qs. p ∷ qs) (rest h)

-- copies of a value that is not there
pub with_some_absent : (v : ℤ) (n : ℕ) (b : Counts) → IsBag b → count_of v b ≡ 0
    → with_some v n b ≡ insert b (index_of v b) (v, capped n)
with_some_absent v n [] bag h = refl
with_some_absent v n (p ∷ ps) bag h = step (int_cmp v p.0) h (with_some_absent v n ps (bag_from_above p.0 ps bag.2))
  where
    step : (o : Ordering) → count_by o v p ps ≡ 0
        → (count_of v ps ≡ 0 → with_some v n ps ≡ insert ps (index_of v ps) (v, capped n))
        → more_by o v n p ps ≡ insert (p ∷ ps) (index_by o v ps) (v, capped n)
    step Less h rest = refl
    step Equal h rest = absurd (omega (arith, bag.0))
    step Greater h rest = ap (λ qs. p ∷ qs) (rest h)

cons_cond : (t : Bool) (p : ℤ × ℕ) (a b : Counts) → p ∷ cond t a b ≡ cond t (p ∷ a) (p ∷ b)
cons_cond true p a b = refl
cons_cond false p a b = refl

-- one copy less of a value that is there
pub without_one_present : (v : ℤ) (b : Counts) → 0 < count_of v b
    → without_one v b ≡ one_less_at v b (index_of v b) (count_of v b)
without_one_present v [] h = absurd (omega arith)
without_one_present v (p ∷ ps) h = step (int_cmp v p.0) (int_ranked v p.0 _ refl) h (without_one_present v ps)
  where
    step : (o : Ordering) → MatchOrdering o (v <ℤ p.0) (v ≡ p.0) (p.0 <ℤ v) → 0 < count_by o v p ps
        → (0 < count_of v ps → without_one v ps ≡ one_less_at v ps (index_of v ps) (count_of v ps))
        → less_by o (nat_eq p.1 1) v p ps ≡ one_less_at v (p ∷ ps) (index_by o v ps) (count_by o v p ps)
    step Less m h rest = absurd (omega arith)
    step Equal m h rest = ap (λ (w : ℤ). cond (nat_eq p.1 1) ps ((w, p.1 - 1) ∷ ps)) (sym m)
    step Greater m h rest =
        ap (λ qs. p ∷ qs) (rest h)
        ∙ cons_cond (nat_eq (count_of v ps) 1) p (remove ps (index_of v ps)) (set ps (index_of v ps) (v, count_of v ps - 1))

-- of a value that is not there, nothing
pub without_one_absent : (v : ℤ) (b : Counts) → IsBag b → count_of v b ≡ 0 → without_one v b ≡ b
without_one_absent v [] bag h = refl
without_one_absent v (p ∷ ps) bag h = step (int_cmp v p.0) h (without_one_absent v ps (bag_from_above p.0 ps bag.2))
  where
    step : (o : Ordering) → count_by o v p ps ≡ 0 → (count_of v ps ≡ 0 → without_one v ps ≡ ps)
        → less_by o (nat_eq p.1 1) v p ps ≡ p ∷ ps
    step Less h rest = refl
    step Equal h rest = absurd (omega (arith, bag.0))
    step Greater h rest = ap (λ qs. p ∷ qs) (rest h)

-- the edits keep a bag a bag
pub with_some_above : (low v : ℤ) (n : ℕ) (b : Counts) → low <ℤ v → 0 < n → IsAbove low b → IsAbove low (with_some v n b)
with_some_above low v n [] lt more h = (lt, omega arith, omega arith, tt)
with_some_above low v n (p ∷ ps) lt more h = step (int_cmp v p.0) (int_ranked v p.0 _ refl) (λ m. with_some_above p.0 v n ps m more h.3)
  where
    step : (o : Ordering) → MatchOrdering o (v <ℤ p.0) (v ≡ p.0) (p.0 <ℤ v) → (p.0 <ℤ v → IsAbove p.0 (with_some v n ps))
        → IsAbove low (more_by o v n p ps)
    step Less m rest = (lt, omega arith, omega arith, (m, h.1, h.2, h.3))
    step Equal m rest = (h.0, omega (arith, h.1), omega arith, h.3)
    step Greater m rest = (h.0, h.1, h.2, rest m)

pub with_some_bag : (v : ℤ) (n : ℕ) (b : Counts) → 0 < n → IsBag b → IsBag (with_some v n b)
with_some_bag v n [] more h = (omega arith, omega arith, tt)
with_some_bag v n (p ∷ ps) more h = step (int_cmp v p.0) (int_ranked v p.0 _ refl)
  where
    step : (o : Ordering) → MatchOrdering o (v <ℤ p.0) (v ≡ p.0) (p.0 <ℤ v) → IsBag (more_by o v n p ps)
    step Less m = (omega arith, omega arith, (m, h.0, h.1, h.2))
    step Equal m = (omega (arith, h.0), omega arith, h.2)
    step Greater m = (h.0, h.1, with_some_above p.0 v n ps m more h.2)

more_than_one : (n : ℕ) → 0 < n → nat_eq n 1 ≡ false → 0 < n - 1
more_than_one n h e = grind (arith, nat_tests)

pub without_one_above : (low v : ℤ) (b : Counts) → IsAbove low b → IsAbove low (without_one v b)
without_one_above low v [] h = tt
without_one_above low v (p ∷ ps) h = step (int_cmp v p.0) (nat_eq p.1 1) refl (without_one_above p.0 v ps h.3)
  where
    step : (o : Ordering) (t : Bool) → nat_eq p.1 1 ≡ t → IsAbove p.0 (without_one v ps) → IsAbove low (less_by o t v p ps)
    step Less t e rest = h
    step Equal true e rest = above_lower p.0 low ps h.0 h.3
    step Equal false e rest = (h.0, more_than_one p.1 h.1 e, omega (arith, h.2), h.3)
    step Greater t e rest = (h.0, h.1, h.2, rest)

pub without_one_bag : (v : ℤ) (b : Counts) → IsBag b → IsBag (without_one v b)
without_one_bag v [] h = tt
without_one_bag v (p ∷ ps) h = step (int_cmp v p.0) (nat_eq p.1 1) refl
  where
    step : (o : Ordering) (t : Bool) → nat_eq p.1 1 ≡ t → IsBag (less_by o t v p ps)
    step Less t e = h
    step Equal true e = bag_from_above p.0 ps h.2
    step Equal false e = (more_than_one p.1 h.0 e, omega (arith, h.1), h.2)
    step Greater t e = (h.0, h.1, without_one_above p.0 v ps h.2)

-- a write into a slice of a vector leaves the vector with that element
pub refill-set : {X : Type 0} (b : List X) (i : ℕ) (p : X) → refill (length b) b (set b i p) ≡ set b i p
refill-set b i p =
    let n = length-set b i p in
    rw (n, drop_all (length b) b (omega arith), append-nil, take_all (length b) (set b i p) (omega arith)) refl

-- copies of which there is one at least
pub some_copies : (v : ℤ) (n : ℕ) (b : Counts) → 0 < n → with_copies v n b ≡ with_some v n b
some_copies v zero b more = absurd (omega arith)
some_copies v (suc n) b more = refl

-- what holds of a bag as it is, and with some copies more, holds with any copies more
pub by_copies : (P : Counts → Type 0) (v : ℤ) (n : ℕ) (b : Counts) → (n ≡ 0 → P b) → (0 < n → P (with_some v n b)) → P (with_copies v n b)
by_copies P v zero b none some = none refl
by_copies P v (suc n) b none some = some (omega arith)

pub with_copies_bag : (v : ℤ) (n : ℕ) (b : Counts) → IsBag b → IsBag (with_copies v n b)
with_copies_bag v n b h = by_copies IsBag v n b (λ e. h) (λ more. with_some_bag v n b more h)

-- what the code of the edits leaves
module _ (v w : ℤ) (b items slice read : Counts) (index : ℕ) (number : w ≡ v) (view : items ≡ b) (wrote : slice ≡ items)
    (seen : read ≡ items) where
  pub copies_read : IsPresent w b index → copies_at read index ≡ count_of v b
  copies_read found =
      let there = subst (λ (v : ℤ). 0 < count_of v b) number found.2 in
      let at = copies_at_index v b there in
      let same = found.0 in
      cc

  pub some_read : IsPresent w b index → 1 ≤ copies_at read index
  some_read found =
      let there = subst (λ (v : ℤ). 0 < count_of v b) number found.2 in
      let at = copies_read found in
      omega arith

  pub more_copies : (n sum : ℕ) → IsPresent w b index
      → sum ≡ capped (copies_at read index + n) → refill (length items) items (set slice index (w, sum)) ≡ with_some v n b
  more_copies n sum found e =
      let there = subst (λ (v : ℤ). 0 < count_of v b) number found.2 in
      let at = copies_read found in
      let meant = with_some_present v n b there in
      let same = found.0 in
      let filled = refill-set items index (w, sum) in
      cc

  pub first_copies : (n : ℕ) (new : Counts) → IsBag b → n < 2 ^ 64
      → IsAbsent w b index → new ≡ insert items index (w, n) → new ≡ with_some v n b
  first_copies n new bag small absent e =
      let none = subst (λ (v : ℤ). count_of v b ≡ 0) number absent.2 in
      let meant = with_some_absent v n b bag none in
      let same = absent.0 in
      let kept : capped n ≡ n = omega arith in
      e ∙ rw (view, same, number) (sym (rw kept at meant))

  pub last_copy : (new : Counts) → IsPresent w b index → copies_at read index ≡ 1
      → new ≡ remove items index → new ≡ without_one v b
  last_copy new found one e =
      let there = subst (λ (v : ℤ). 0 < count_of v b) number found.2 in
      let at = copies_read found in
      let meant = without_one_present v b there in
      let same = found.0 in
      let last : nat_eq (count_of v b) 1 ≡ true = rw (← at, one) refl in
      e ∙ rw (view, same, number) (sym (rw last at meant))

  pub one_copy_less : IsPresent w b index → (copies_at read index ≡ 1 → ⊥)
      → refill (length items) items (set slice index (w, copies_at read index - 1)) ≡ without_one v b
  one_copy_less found several =
      let there = subst (λ (v : ℤ). 0 < count_of v b) number found.2 in
      let at = copies_read found in
      let meant = without_one_present v b there in
      let same = found.0 in
      let filled = refill-set items index (w, copies_at read index - 1) in
      let more : nat_eq (count_of v b) 1 ≡ false = grind (arith, nat_tests) in
      let plain = rw more at meant in
      cc

-- every count of a bag is above 0
pub copies_above_0 : (b : Counts) → IsBag b → (i : ℕ) → i < length b → 0 < copies_at b i
copies_above_0 [] h i lt = absurd (omega arith)
copies_above_0 (p ∷ ps) h zero lt = h.0
copies_above_0 (p ∷ ps) h (suc i) lt = copies_above_0 ps (bag_from_above p.0 ps h.2) i (omega arith)

-- the greatest value is the last
pub most_last : (b : Counts) → 1 ≤ length b → most b ≡ Some (value_at b (length b - 1))
most_last [] h = absurd (omega arith)
most_last (p ∷ []) h = refl
most_last (p ∷ q ∷ ps) h =
    let last : length (p ∷ q ∷ ps) - 1 ≡ suc (length (q ∷ ps) - 1) = omega arith in
    most_last (q ∷ ps) (omega arith) ∙ ap (λ (i : ℕ). Some (value_at (p ∷ q ∷ ps) i)) (sym last)
