-- Deliveries and events in their order: what they deliver, and that it tells them.
use Rattle.std.proofs.Common.{◌≡◌, ℕ, ◌+◌, ◌^◌, ◌<◌, Bool, true, false, ◌&&◌, cond, nat_eq, List, [], ◌∷◌, ℤ, refl, sym, ap, ◌∙◌, arith}
use Rattle.std.specs.Cmp.{IsTotalOrder}
use Rattle.std.specs.Ordering.{int_cmp, is_eq, match_ordering, nat_cmp, on, ordering_then, then_cmp}
use Rattle.std.specs.declared.cmp.Ordering.{Ordering}
use Rattle.std.specs.declared.cmp.Ordering.TheVariants.{Less, Equal, Greater}
use Rattle.std.proofs.lemmas.Cmp.{by_ranked, int_cmp_total, int_ranked, nat_cmp_total, on_total, ranked, then_total}
use Rattle.std.proofs.lemmas.Bool.Decides.{nat_tests}
use Rattle.dv_time.specs.Time.{time_cmp}
use Rattle.dv_time.specs.declared.time.Time.{Time}
use Rattle.dv_bag.specs.Bag.{Counts, capped, with_copies}
use Rattle.dv_bag.proofs.Monoid.{copies_capped}
use Rattle.dv_conservative.specs.Links.{Delivery, delivered, taken}
use Rattle.dv_conservative.specs.Events.{Event, delivery_cmp, delivery_of, event_cmp, in_order, with_delivery}
use Rattle.dv_conservative.proofs.Delivered.{deliveries_join, taken_either}

pub delivery_total : IsTotalOrder delivery_cmp
delivery_total =
    then_total (on_total (λ (d : Delivery). d.component) nat_cmp_total)
    (then_total (on_total (λ (d : Delivery). d.port) nat_cmp_total) (on_total (λ (d : Delivery). d.value) int_cmp_total))

pub time_total : IsTotalOrder time_cmp
time_total = then_total (on_total (λ (t : Time). t.tick) nat_cmp_total) (on_total (λ (t : Time). t.micro) nat_cmp_total)

pub event_total : IsTotalOrder event_cmp
event_total = then_total (on_total (λ (e : Event). e.time) time_total) (on_total delivery_of delivery_total)

-- what is tied is the same
both_tied : (o p : Ordering) → ordering_then o p ≡ Equal → (o ≡ Equal) × (p ≡ Equal)
both_tied Less p h = absurd (cc)
both_tied Equal p h = (refl, h)
both_tied Greater p h = absurd (cc)

nat_tied : (x y : ℕ) → nat_cmp x y ≡ Equal → x ≡ y
nat_tied x y h = by_ranked _ _ _ (nat_cmp x y) (ranked x y _ refl) (λ e p. absurd (cc)) (λ e p. p) (λ e p. absurd (cc))

int_tied : (x y : ℤ) → int_cmp x y ≡ Equal → x ≡ y
int_tied x y h = by_ranked _ _ _ (int_cmp x y) (int_ranked x y _ refl) (λ e p. absurd (cc)) (λ e p. p) (λ e p. absurd (cc))

pub delivery_tied : (a b : Delivery) → delivery_cmp a b ≡ Equal → (a.component ≡ b.component) × (a.port ≡ b.port) × (a.value ≡ b.value)
delivery_tied a b h =
    let first = both_tied (nat_cmp a.component b.component) (ordering_then (nat_cmp a.port b.port) (int_cmp a.value b.value)) h in
    let second = both_tied (nat_cmp a.port b.port) (int_cmp a.value b.value) first.1 in
    (nat_tied a.component b.component first.0, nat_tied a.port b.port second.0, int_tied a.value b.value second.1)

pub time_tied : (t u : Time) → time_cmp t u ≡ Equal → t ≡ u
time_tied t u h =
    let both = both_tied (nat_cmp t.tick u.tick) (nat_cmp t.micro u.micro) h in
    let tick = nat_tied t.tick u.tick both.0 in
    let micro = nat_tied t.micro u.micro both.1 in
    ap (λ (n : ℕ). let v : Time = record { tick = n; micro = t.micro } in v) tick
    ∙ ap (λ (n : ℕ). let v : Time = record { tick = u.tick; micro = n } in v) micro

-- the other way round
back : (o : Ordering) → (a b : Delivery) → delivery_cmp a b ≡ Greater → delivery_cmp b a ≡ Less
back o a b h = turned (delivery_cmp b a) (sym (delivery_total.antisymm a b) ∙ h)
  where
    turned : (o : Ordering) → Rattle.std.specs.Ordering.ordering_reverse o ≡ Greater → o ≡ Less
    turned Less e = refl
    turned Equal e = absurd (cc)
    turned Greater e = absurd (cc)

-- what a delivery brings, with its copies as they are kept
abbrev kept_copies : Delivery → Delivery
kept_copies d = record { component = d.component; port = d.port; value = d.value; copies = capped d.copies }

module _ (k port : ℕ) where
  taken_kept : (d : Delivery) (bag : Counts) → taken k port (kept_copies d) bag ≡ taken k port d bag
  taken_kept d bag = by_test (nat_eq d.component k && nat_eq d.port port)
    where
      by_test : (t : Bool) → cond t (with_copies d.value (capped d.copies) bag) bag ≡ cond t (with_copies d.value d.copies bag) bag
      by_test true = copies_capped d.value d.copies bag
      by_test false = refl

  taken_none : (d : Delivery) (bag : Counts) → d.copies ≡ 0 → taken k port d bag ≡ bag
  taken_none d bag h = rw h (by_test (nat_eq d.component k && nat_eq d.port port))
    where
      by_test : (t : Bool) → cond t (with_copies d.value 0 bag) bag ≡ bag
      by_test true = refl
      by_test false = refl

  with_one : (d : Delivery) (es : List Delivery) (bag : Counts) →
      delivered k port (with_delivery d es) bag ≡ taken k port d (delivered k port es bag)
  with_one d [] bag = taken_kept d bag
  with_one d (e ∷ es) bag = by_order (with_one d es bag) (delivery_cmp d e) refl
    where
      by_order : delivered k port (with_delivery d es) bag ≡ taken k port d (delivered k port es bag) → (o : Ordering) →
          delivery_cmp d e ≡ o →
          delivered k port
          (match_ordering o (kept_copies d ∷ e ∷ es)
          (record { component = e.component; port = e.port; value = e.value; copies = capped (d.copies + e.copies) } ∷ es)
          (e ∷ with_delivery d es))
          bag ≡ taken k port d (taken k port e (delivered k port es bag))
      by_order rest Less h = taken_kept d (taken k port e (delivered k port es bag))
      by_order rest Equal h =
          let same = delivery_tied d e h in
          sym (deliveries_join k port d e (delivered k port es bag) same.0 same.1 same.2)
      by_order rest Greater h = ap (taken k port e) rest ∙ taken_either k port e d (delivered k port es bag)

  -- deliveries in order deliver the same
  pub in_order_delivers : (ds : List Delivery) (bag : Counts) → delivered k port (in_order ds) bag ≡ delivered k port ds bag
  in_order_delivers [] bag = refl
  in_order_delivers (d ∷ ds) bag = by_test (in_order_delivers ds bag) (nat_eq d.copies 0) refl
    where
      by_test : delivered k port (in_order ds) bag ≡ delivered k port ds bag → (t : Bool) → nat_eq d.copies 0 ≡ t →
          delivered k port (cond t (in_order ds) (with_delivery d (in_order ds))) bag ≡ taken k port d (delivered k port ds bag)
      by_test rest true h =
          let none : d.copies ≡ 0 = grind (arith, nat_tests) in
          rest ∙ sym (taken_none d (delivered k port ds bag) none)
      by_test rest false h = with_one d (in_order ds) bag ∙ ap (taken k port d) rest

-- deliveries that stand in order, each after the one before
abbrev pub Follow : Delivery → List Delivery → Type 0
Follow a [] = Unit {0}
Follow a (d ∷ ds) = (delivery_cmp a d ≡ Less) × Follow d ds

abbrev pub Ordered : List Delivery → Type 0
Ordered [] = Unit {0}
Ordered (d ∷ ds) = Follow d ds

abbrev pub HaveCopies : List Delivery → Type 0
HaveCopies [] = Unit {0}
HaveCopies (d ∷ ds) = (0 < d.copies) × (d.copies < 2 ^ 64) × HaveCopies ds

follow_key : (a b : Delivery) (ds : List Delivery) → a.component ≡ b.component → a.port ≡ b.port → a.value ≡ b.value → Follow a ds →
    Follow b ds
follow_key a b [] c p v h = tt
follow_key a b (d ∷ ds) c p v h = (rw (← c, ← p, ← v) h.0, h.1)

follow_with : (a d : Delivery) (es : List Delivery) → delivery_cmp a d ≡ Less → Follow a es → Follow a (with_delivery d es)
follow_with a d [] less h = (less, tt)
follow_with a d (e ∷ es) less h = by_order (λ over. follow_with e d es over h.1) (delivery_cmp d e) refl
  where
    by_order : (delivery_cmp e d ≡ Less → Follow e (with_delivery d es)) → (o : Ordering) → delivery_cmp d e ≡ o →
        Follow a
        (match_ordering o (kept_copies d ∷ e ∷ es)
        (record { component = e.component; port = e.port; value = e.value; copies = capped (d.copies + e.copies) } ∷ es)
        (e ∷ with_delivery d es))
    by_order rest Less under = (less, (under, h.1))
    by_order rest Equal same = (
      h.0,
      follow_key e (record { component = e.component; port = e.port; value = e.value; copies = capped (d.copies + e.copies) }) es
          refl refl refl h.1,
    )
    by_order rest Greater over = (h.0, rest (back Greater d e over))

ordered_with : (d : Delivery) (es : List Delivery) → Ordered es → Ordered (with_delivery d es)
ordered_with d [] h = tt
ordered_with d (e ∷ es) h = by_order (delivery_cmp d e) refl
  where
    by_order : (o : Ordering) → delivery_cmp d e ≡ o →
        Ordered
        (match_ordering o (kept_copies d ∷ e ∷ es)
        (record { component = e.component; port = e.port; value = e.value; copies = capped (d.copies + e.copies) } ∷ es)
        (e ∷ with_delivery d es))
    by_order Less under = (under, h)
    by_order Equal same =
        follow_key e (record { component = e.component; port = e.port; value = e.value; copies = capped (d.copies + e.copies) }) es refl
        refl refl h
    by_order Greater over = follow_with e d es (back Greater d e over) h

pub order_of : (ds : List Delivery) → Ordered (in_order ds)
order_of [] = tt
order_of (d ∷ ds) = by_test (order_of ds) (nat_eq d.copies 0)
  where
    by_test : Ordered (in_order ds) → (t : Bool) → Ordered (cond t (in_order ds) (with_delivery d (in_order ds)))
    by_test rest true = rest
    by_test rest false = ordered_with d (in_order ds) rest

copies_with : (d : Delivery) (es : List Delivery) → 0 < d.copies → HaveCopies es → HaveCopies (with_delivery d es)
copies_with d [] some h = (omega arith, omega arith, tt)
copies_with d (e ∷ es) some h = by_order (copies_with d es some h.2) (delivery_cmp d e)
  where
    by_order : HaveCopies (with_delivery d es) → (o : Ordering) →
        HaveCopies
        (match_ordering o (kept_copies d ∷ e ∷ es)
        (record { component = e.component; port = e.port; value = e.value; copies = capped (d.copies + e.copies) } ∷ es)
        (e ∷ with_delivery d es))
    by_order rest Less = (omega arith, omega arith, h)
    by_order rest Equal = (omega arith, omega arith, h.2)
    by_order rest Greater = (h.0, h.1, rest)

pub copies_of : (ds : List Delivery) → HaveCopies (in_order ds)
copies_of [] = tt
copies_of (d ∷ ds) = by_test (copies_of ds) (nat_eq d.copies 0) refl
  where
    by_test : HaveCopies (in_order ds) → (t : Bool) → nat_eq d.copies 0 ≡ t →
        HaveCopies (cond t (in_order ds) (with_delivery d (in_order ds)))
    by_test rest true h = rest
    by_test rest false h = let some : 0 < d.copies = grind (arith, nat_tests) in copies_with d (in_order ds) some rest
