-- The events of windows that grow, and windows in which nothing is sent.
use Rattle.std.proofs.Common.{◌≡◌, ℕ, zero, suc, ◌+◌, ◌-◌, ◌<◌, ◌≤◌, inl, inr, List, [], ◌∷◌, ◌++◌, append-nil, append_assoc}
use Rattle.std.proofs.Common.{map, refl, ap, sym, ◌∙◌, subst, arith}
use Rattle.std.proofs.lemmas.Bool.{cases_lt}
use Rattle.dv_time.specs.Time.{time_of}
use Rattle.dv_conservative.specs.Events.{Event, event_of, events_between, events_from, in_order}
use Rattle.dv_conservative.specs.Links.{Delivery}

module _ (limit : ℕ) (stream : ℕ → List Delivery) where
  -- a rank's events
  abbrev pub at_rank : ℕ → List Event
  at_rank n = map (event_of (time_of limit n)) (in_order (stream n))

  pub from_parts : (start a b : ℕ) → events_from limit stream start (a + b) ≡ events_from limit stream start a ++ events_from limit stream
      (start + a) b
  from_parts start zero b =
      let count : zero + b ≡ b = omega arith in
      let first : start + zero ≡ start = omega arith in
      ap (events_from limit stream start) count ∙ ap (λ (n : ℕ). events_from limit stream n b) (sym first)
  from_parts start (suc a) b =
      let count : suc a + b ≡ suc (a + b) = omega arith in
      let first : (start + 1) + a ≡ start + suc a = omega arith in
      ap (events_from limit stream start) count
      ∙ ap (λ (es : List Event). at_rank start ++ es) (from_parts (start + 1) a b)
      ∙ ap (λ (n : ℕ). at_rank start ++ (events_from limit stream (start + 1) a ++ events_from limit stream n b)) first
      ∙ sym (append_assoc (at_rank start) (events_from limit stream (start + 1) a) (events_from limit stream (start + suc a) b))

  pub silent_from : (start count : ℕ) → ((n : ℕ) → start ≤ n → n < start + count → in_order (stream n) ≡ [])
      → events_from limit stream start count ≡ []
  silent_from start zero h = refl
  silent_from start (suc count) h =
      ap (λ (ds : List Delivery). map (event_of (time_of limit start)) ds ++ events_from limit stream (start + 1) count)
      (h start (omega arith) (omega arith))
      ∙ silent_from (start + 1) count (λ n le lt. h n (omega arith) (omega arith))

  pub none_between : (from upto : ℕ) → upto ≤ from → events_between limit stream from upto ≡ []
  none_between from upto le = let none : upto - from ≡ 0 = omega arith in ap (events_from limit stream from) none

  -- where nothing is sent from one rank to another, a window that ends at either has the same events
  pub silent_between : (from mid upto : ℕ) → mid ≤ upto → ((n : ℕ) → mid ≤ n → n < upto → in_order (stream n) ≡ []) →
      events_between limit stream from upto ≡ events_between limit stream from mid
  silent_between from mid upto le h = elim (cases_lt from mid) [
    | inl before ↦
        let count : upto - from ≡ (mid - from) + (upto - mid) = omega arith in
        let index : from + (mid - from) ≡ mid = omega arith in
        ap (events_from limit stream from) count
        ∙ from_parts from (mid - from) (upto - mid)
        ∙ ap (λ (n : ℕ). events_from limit stream from (mid - from) ++ events_from limit stream n (upto - mid)) index
        ∙ ap (λ (es : List Event). events_from limit stream from (mid - from) ++ es)
        (silent_from mid (upto - mid) (λ n low less. h n low (omega arith)))
        ∙ append-nil (events_from limit stream from (mid - from))
    | inr after ↦
        silent_from from (upto - from) (λ n low less. h n (omega arith) (omega arith))
        ∙ sym (none_between from mid after)
  ]

  -- a window that ends a rank later has the events of that rank too
  pub one_more : (from n : ℕ) → from ≤ n → events_between limit stream from (suc n) ≡ events_between limit stream from n ++ at_rank n
  one_more from n le =
      let count : suc n - from ≡ (n - from) + 1 = omega arith in
      let index : from + (n - from) ≡ n = omega arith in
      ap (events_from limit stream from) count
      ∙ from_parts from (n - from) 1
      ∙ ap (λ (m : ℕ). events_from limit stream from (n - from) ++ events_from limit stream m 1) index
      ∙ ap (λ (es : List Event). events_from limit stream from (n - from) ++ es) (append-nil (at_rank n))
