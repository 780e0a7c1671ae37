-- The events of a window, rank by rank.
use Rattle.std.proofs.Common.{◌≡◌, inl, inr, ℕ, suc, zero, ◌+◌, ◌-◌, ◌*◌, ◌<◌, ◌≤◌, Bool, true, false, ◌&&◌, cond, nat_eq, List}
use Rattle.std.proofs.Common.{[], ◌∷◌, ◌++◌, append-nil, map, refl, sym, ap, ◌∙◌, subst, arith}
use Rattle.std.specs.Ordering.{ordering_then}
use Rattle.std.specs.declared.cmp.Ordering.{Ordering}
use Rattle.std.specs.declared.cmp.Ordering.TheVariants.{Less, Equal}
use Rattle.std.proofs.lemmas.Bool.{cases_lt}
use Rattle.std.proofs.lemmas.Bool.Decides.{nat_tests}
use Rattle.std.proofs.lemmas.Cmp.{tied_itself}
use Rattle.dv_time.specs.Time.{tick_of, micro_of, time_cmp, time_of}
use Rattle.dv_time.specs.declared.time.Time.{Time}
use Rattle.dv_devs.proofs.Cuts.{ranks_before}
use Rattle.dv_devs.proofs.NextTimes.{rank_at_time}
use Rattle.dv_conservative.specs.Links.{Delivery}
use Rattle.dv_conservative.specs.Events.{AllHaveCopies, AreInOrder, AreInOrderAfter, Event, deliveries_at, delivery_cmp}
use Rattle.dv_conservative.specs.Events.{delivery_of, event_cmp, event_of, events_between, events_from, in_order, same_time}
use Rattle.dv_conservative.proofs.Order.{Follow, HaveCopies, Ordered, copies_of, order_of, time_total}

-- times of ranks
pub itself : (n : ℕ) → nat_eq n n ≡ true
itself n = grind (arith, nat_tests)

pub same_number : (a b : ℕ) → nat_eq a b ≡ true → a ≡ b
same_number a b e = grind (arith, nat_tests)

module _ (limit : ℕ) where
  same_itself : (n : ℕ) → same_time (time_of limit n) (time_of limit n) ≡ true
  same_itself n = rw (itself (tick_of limit n), itself (micro_of limit n)) refl

  pub same_ranks : (m n : ℕ) → same_time (time_of limit m) (time_of limit n) ≡ true → m ≡ n
  same_ranks m n h = by_tests (nat_eq (tick_of limit m) (tick_of limit n)) (nat_eq (micro_of limit m) (micro_of limit n)) refl refl h
    where
      by_tests : (t u : Bool) → nat_eq (tick_of limit m) (tick_of limit n) ≡ t → nat_eq (micro_of limit m) (micro_of limit n) ≡ u →
          (t && u) ≡ true → m ≡ n
      by_tests true true e d h =
          let tick = same_number (tick_of limit m) (tick_of limit n) e in
          let micro = same_number (micro_of limit m) (micro_of limit n) d in
          sym (rank_at_time limit m)
          ∙ ap (λ (x : ℕ). x * (limit + 1) + micro_of limit m) tick
          ∙ ap (λ (x : ℕ). tick_of limit n * (limit + 1) + x) micro
          ∙ rank_at_time limit n
      by_tests true false e d h = absurd (cc)
      by_tests false u e d h = absurd (cc)

  not_same : (m n : ℕ) → (m ≡ n → ⊥) → same_time (time_of limit m) (time_of limit n) ≡ false
  not_same m n differ = by_test (same_time (time_of limit m) (time_of limit n)) refl
    where
      by_test : (t : Bool) → same_time (time_of limit m) (time_of limit n) ≡ t → t ≡ false
      by_test true h = absurd (differ (same_ranks m n h))
      by_test false h = refl

  -- what comes of two lists
  pub at_append : (es fs : List Event) (n : ℕ) → deliveries_at limit (es ++ fs) n ≡ deliveries_at limit es n ++ deliveries_at limit fs n
  at_append [] fs n = refl
  at_append (e ∷ es) fs n = by_test (same_time e.time (time_of limit n)) (at_append es fs n)
    where
      by_test : (t : Bool) → deliveries_at limit (es ++ fs) n ≡ deliveries_at limit es n ++ deliveries_at limit fs n →
          cond t (delivery_of e ∷ deliveries_at limit (es ++ fs) n) (deliveries_at limit (es ++ fs) n)
          ≡ cond t (delivery_of e ∷ deliveries_at limit es n) (deliveries_at limit es n) ++ deliveries_at limit fs n
      by_test true rest = ap (λ (ds : List Delivery). delivery_of e ∷ ds) rest
      by_test false rest = rest

  at_here : (n : ℕ) (ds : List Delivery) → deliveries_at limit (map (event_of (time_of limit n)) ds) n ≡ ds
  at_here n [] = refl
  at_here n (d ∷ ds) = rw (same_itself n) (ap (λ (xs : List Delivery). d ∷ xs) (at_here n ds))

  at_elsewhere : (m n : ℕ) (ds : List Delivery) → (m ≡ n → ⊥) → deliveries_at limit (map (event_of (time_of limit m)) ds) n ≡ []
  at_elsewhere m n [] differ = refl
  at_elsewhere m n (d ∷ ds) differ = rw (not_same m n differ) (at_elsewhere m n ds differ)

  module _ (stream : ℕ → List Delivery) where
    pub before_all : (start count n : ℕ) → n < start → deliveries_at limit (events_from limit stream start count) n ≡ []
    before_all start zero n lt = refl
    before_all start (suc count) n lt =
        at_append (map (event_of (time_of limit start)) (in_order (stream start))) (events_from limit stream (start + 1) count) n
        ∙ ap (λ (ds : List Delivery). ds ++ deliveries_at limit (events_from limit stream (start + 1) count) n)
        (at_elsewhere start n (in_order (stream start)) (λ e. absurd (omega arith)))
        ∙ before_all (start + 1) count n (omega arith)

    pub after_all : (start count n : ℕ) → start + count ≤ n → deliveries_at limit (events_from limit stream start count) n ≡ []
    after_all start zero n le = refl
    after_all start (suc count) n le =
        at_append (map (event_of (time_of limit start)) (in_order (stream start))) (events_from limit stream (start + 1) count) n
        ∙ ap (λ (ds : List Delivery). ds ++ deliveries_at limit (events_from limit stream (start + 1) count) n)
        (at_elsewhere start n (in_order (stream start)) (λ e. absurd (omega arith)))
        ∙ after_all (start + 1) count n (omega arith)

    pub within_all : (start count n : ℕ) → start ≤ n → n < start + count →
        deliveries_at limit (events_from limit stream start count) n ≡ in_order (stream n)
    within_all start zero n le lt = absurd (omega arith)
    within_all start (suc count) n le lt =
        at_append (map (event_of (time_of limit start)) (in_order (stream start))) (events_from limit stream (start + 1) count) n
        ∙ elim (cases_lt start n) [
          | inl later ↦
              ap (λ (ds : List Delivery). ds ++ deliveries_at limit (events_from limit stream (start + 1) count) n)
              (at_elsewhere start n (in_order (stream start)) (λ e. absurd (omega arith)))
              ∙ within_all (start + 1) count n (omega arith) (omega arith)
          | inr now ↦
              let same : start ≡ n = omega arith in
              subst (λ (j : ℕ).
              deliveries_at limit (map (event_of (time_of limit j)) (in_order (stream j))) n
              ++ deliveries_at limit (events_from limit stream (j + 1) count) n ≡ in_order (stream n)) (sym same)
              (ap (λ (ds : List Delivery). ds ++ deliveries_at limit (events_from limit stream (n + 1) count) n)
              (at_here n (in_order (stream n)))
              ∙ ap (λ (ds : List Delivery). in_order (stream n) ++ ds) (before_all (n + 1) count n (omega arith))
              ∙ append-nil (in_order (stream n)))
        ]

    pub before_window : (from upto n : ℕ) → n < from → deliveries_at limit (events_between limit stream from upto) n ≡ []
    before_window from upto n lt = before_all from (upto - from) n lt

    pub after_window : (from upto n : ℕ) → from ≤ n → upto ≤ n → deliveries_at limit (events_between limit stream from upto) n ≡ []
    after_window from upto n le past = after_all from (upto - from) n (omega arith)

    pub within_window : (from upto n : ℕ) → from ≤ n → n < upto →
        deliveries_at limit (events_between limit stream from upto) n ≡ in_order (stream n)
    within_window from upto n le lt = within_all from (upto - from) n le (omega arith)

  -- windows of streams that are the same there
  pub same_windows : (one other : ℕ → List Delivery) (start count : ℕ) →
      ((n : ℕ) → start ≤ n → n < start + count → in_order (one n) ≡ in_order (other n))
      → events_from limit one start count ≡ events_from limit other start count
  same_windows one other start zero same = refl
  same_windows one other start (suc count) same =
      ap (λ (ds : List Delivery). map (event_of (time_of limit start)) ds ++ events_from limit one (start + 1) count)
      (same start (omega arith) (omega arith))
      ∙ ap (λ (es : List Event). map (event_of (time_of limit start)) (in_order (other start)) ++ es)
      (same_windows one other (start + 1) count (λ n le lt. same n (omega arith) (omega arith)))

  -- the events of a window are in order, and have copies
  time_itself : (t : Time) → time_cmp t t ≡ Equal
  time_itself t = tied_itself time_total t

  at_one_time : (t : Time) (d e : Delivery) → event_cmp (event_of t d) (event_of t e) ≡ delivery_cmp d e
  at_one_time t d e = ap (λ (o : Ordering). ordering_then o (delivery_cmp d e)) (time_itself t)

  next_time : (m n : ℕ) (d e : Delivery) → m < n → event_cmp (event_of (time_of limit m) d) (event_of (time_of limit n) e) ≡ Less
  next_time m n d e lt = ap (λ (o : Ordering). ordering_then o (delivery_cmp d e)) (ranks_before limit m n lt)

  -- events that begin later than a rank go on from an event of it
  abbrev BeginLater : ℕ → List Event → Type 0
  BeginLater n [] = Unit {0}
  BeginLater n (e ∷ es) = (m : ℕ) × (d : Delivery) × (n < m) × (e ≡ event_of (time_of limit m) d)

  goes_on : (n : ℕ) (d : Delivery) (es : List Event) → BeginLater n es → AreInOrder es → AreInOrderAfter (event_of (time_of limit n) d) es
  goes_on n d [] later h = tt
  goes_on n d (e ∷ es) later h =
      (ap (event_cmp (event_of (time_of limit n) d)) later.3 ∙ next_time n later.0 d later.1 later.2, h)

  joins_after : (n : ℕ) (a : Delivery) (ds : List Delivery) (es : List Event) → Follow a ds → BeginLater n es → AreInOrder es →
      AreInOrderAfter (event_of (time_of limit n) a) (map (event_of (time_of limit n)) ds ++ es)
  joins_after n a [] es h later order = goes_on n a es later order
  joins_after n a (d ∷ ds) es h later order = (at_one_time (time_of limit n) a d ∙ h.0, joins_after n d ds es h.1 later order)

  joins_order : (n : ℕ) (ds : List Delivery) (es : List Event) → Ordered ds → BeginLater n es → AreInOrder es →
      AreInOrder (map (event_of (time_of limit n)) ds ++ es)
  joins_order n [] es h later order = order
  joins_order n (d ∷ ds) es h later order = joins_after n d ds es h later order

  begins_at : (n : ℕ) (ds : List Delivery) (m : ℕ) (es : List Event) → m < n → BeginLater m es →
      BeginLater m (map (event_of (time_of limit n)) ds ++ es)
  begins_at n [] m es lt later = later
  begins_at n (d ∷ ds) m es lt later = (n, d, lt, refl)

  begins_later : (stream : ℕ → List Delivery) (start count n : ℕ) → n < start → BeginLater n (events_from limit stream start count)
  begins_later stream start zero n lt = tt
  begins_later stream start (suc count) n lt =
      begins_at start (in_order (stream start)) n (events_from limit stream (start + 1) count) lt
      (begins_later stream (start + 1) count n (omega arith))

  pub window_in_order : (stream : ℕ → List Delivery) (start count : ℕ) → AreInOrder (events_from limit stream start count)
  window_in_order stream start zero = tt
  window_in_order stream start (suc count) =
      joins_order start (in_order (stream start)) (events_from limit stream (start + 1) count) (order_of (stream start))
      (begins_later stream (start + 1) count start (omega arith)) (window_in_order stream (start + 1) count)

  copies_append : (t : Time) (ds : List Delivery) (es : List Event) → HaveCopies ds → AllHaveCopies es →
      AllHaveCopies (map (event_of t) ds ++ es)
  copies_append t [] es h k = k
  copies_append t (d ∷ ds) es h k = (h.0, h.1, copies_append t ds es h.2 k)

  pub window_has_copies : (stream : ℕ → List Delivery) (start count : ℕ) → AllHaveCopies (events_from limit stream start count)
  window_has_copies stream start zero = tt
  window_has_copies stream start (suc count) =
      copies_append (time_of limit start) (in_order (stream start)) (events_from limit stream (start + 1) count) (copies_of (stream start))
      (window_has_copies stream (start + 1) count)
