-- Deliveries in order are told by what they deliver.
use Rattle.std.proofs.Common.{◌≡◌, inl, inr, ℕ, suc, ◌+◌, ◌^◌, ◌<◌, ◌≤◌, Bool, true, false, ◌&&◌, cond, nat_eq, List, [], ◌∷◌}
use Rattle.std.proofs.Common.{◌++◌, length, get_or, drop, map, reverse, ℤ, refl, sym, ap, ◌∙◌, subst, arith}
use Rattle.std.specs.Ordering.{int_eq, int_cmp, is_eq, is_lt, match_ordering, ordering_reverse}
use Rattle.std.specs.declared.cmp.Ordering.{Ordering}
use Rattle.std.specs.declared.cmp.Ordering.TheVariants.{Less, Equal, Greater}
use Rattle.std.proofs.lemmas.Bool.{and_parts, cases_lt, eq-eqb, eqb-true}
use Rattle.std.proofs.lemmas.Cmp.{tied_itself}
use Rattle.std.proofs.lemmas.Option.{get_or_from_slice_get, slice_get-get_or}
use Rattle.dv_bag.proofs.Monoid.{by_order}
use Rattle.dv_bag.proofs.Pairs.{cmp_equal, cmp_greater, cmp_less}
use Rattle.dv_share.proofs.Carrying.{drop_next}
use Rattle.std.proofs.lemmas.List.Sorted.{ranks_by, sorted_far}
use Rattle.dv_time.specs.Time.{time_of}
use Rattle.dv_bag.specs.Bag.{capped}
use Rattle.dv_conservative.specs.Links.{Delivery as Meant, delivered}
use Rattle.dv_conservative.specs.Events.{AllOfRun, Event, deliveries_at, delivery_cmp, event_of, events_between, in_order, with_delivery}
use Rattle.dv_conservative.proofs.Order.{delivery_tied, delivery_total, in_order_delivers}
use Rattle.dv_conservative.proofs.Told.{told}
use Rattle.dv_conservative.proofs.Windows.{after_window, window_has_copies, window_in_order, within_window}
use Rattle.std.proofs.lemmas.List.{get_or-drop, length-drop, map-append, reverse-append}
use Rattle.dv_share.specs.Links.{deliveries_of, delivery_of}
use Rattle.dv_share.specs.Rows.{AreSorted, joined_before, same_key}
use Rattle.dv_share.specs.declared.link.Delivery.{Delivery}
use Rattle.dv_share.proofs.Indices.{differ, yes_or_no}

of_run : (ds : List Meant) → AllOfRun 0 (map (event_of (time_of 0 0)) ds ++ [])
of_run [] = tt
of_run (d ∷ ds) = (omega arith, of_run ds)

module _ (ds es : List Meant) (same : (k port : ℕ) → delivered k port ds [] ≡ delivered k port es []) where
  first : (n k port : ℕ) → delivered k port (deliveries_at 0 (events_between 0 (λ m. ds) 0 1) n) []
      ≡ delivered k port (deliveries_at 0 (events_between 0 (λ m. es) 0 1) n) []
  first n k port = elim (cases_lt n 1) [
    | inl lt ↦
        ap (λ (xs : List Meant). delivered k port xs []) (within_window 0 (λ m. ds) 0 1 n (omega arith) lt)
        ∙ in_order_delivers k port ds []
        ∙ same k port
        ∙ sym (in_order_delivers k port es [])
        ∙ sym (ap (λ (xs : List Meant). delivered k port xs []) (within_window 0 (λ m. es) 0 1 n (omega arith) lt))
    | inr ge ↦
        ap (λ (xs : List Meant). delivered k port xs []) (after_window 0 (λ m. ds) 0 1 n (omega arith) ge)
        ∙ sym (ap (λ (xs : List Meant). delivered k port xs []) (after_window 0 (λ m. es) 0 1 n (omega arith) ge))
  ]

  -- deliveries that make the same bags are the same in order
  pub in_order_same : in_order ds ≡ in_order es
  in_order_same =
      let events : events_between 0 (λ m. ds) 0 1 ≡ events_between 0 (λ m. es) 0 1 =
      told 0 (events_between 0 (λ m. ds) 0 1) (events_between 0 (λ m. es) 0 1) (window_in_order 0 (λ m. ds) 0 1)
      (window_in_order 0 (λ m. es) 0 1)
      (window_has_copies 0 (λ m. ds) 0 1) (window_has_copies 0 (λ m. es) 0 1) (of_run (in_order ds)) (of_run (in_order es)) first in
      sym (within_window 0 (λ m. ds) 0 1 0 (omega arith) (omega arith))
      ∙ ap (λ (xs : List Event). deliveries_at 0 xs 0) events
      ∙ within_window 0 (λ m. es) 0 1 0 (omega arith) (omega arith)

-- one more at the end of a list that stands from the last to the first
pub turned_push : (ds : List Delivery) (d : Delivery) → reverse (deliveries_of (ds ++ d ∷ [])) ≡ delivery_of d ∷ reverse (deliveries_of ds)
turned_push ds d = ap reverse (map-append delivery_of ds (d ∷ [])) ∙ reverse-append (deliveries_of ds) (delivery_of d ∷ [])

pub joined_last : (d next : Delivery) (copies : ℕ) (old new rest : List Delivery) → old ≡ rest ++ next ∷ [] →
    new ≡ rest ++ record { component = next.component; port = next.port; value = next.value; copies = copies } ∷ []
    → copies ≡ capped (d.copies + next.copies) →
    next.component ≡ d.component → next.port ≡ d.port → next.value ≡ d.value → reverse (deliveries_of new)
    ≡ joined_before (delivery_of d) (reverse (deliveries_of old))
joined_last d next copies old new rest before after sum component port value =
    let first : same_key (delivery_of d) (delivery_of next) ≡ true =
    rw (eq-eqb next.component d.component component, eq-eqb next.port d.port port) (int_same next.value d.value value) in
    ap (λ (ds : List Delivery). reverse (deliveries_of ds)) after
    ∙ turned_push rest (record { component = next.component; port = next.port; value = next.value; copies = copies })
    ∙ ap
    (λ (n : ℕ).
    (let x : Meant = record { component = next.component; port = next.port; value = next.value; copies = n } in x) ∷ reverse
    (deliveries_of rest))
    sum
    ∙ sym
    (ap (λ (ds : List Delivery). joined_before (delivery_of d) (reverse (deliveries_of ds))) before
    ∙ ap (joined_before (delivery_of d)) (turned_push rest next)
    ∙ ap
    (λ (t : Bool).
    cond t
    ((let x : Meant = record {
      component = next.component;
      port = next.port;
      value = next.value;
      copies =
          capped (d.copies + next.copies);
    } in x)
    ∷ reverse (deliveries_of rest))
    (delivery_of d ∷ delivery_of next ∷ reverse (deliveries_of rest)))
    first)
  where
    int_same : (v w : ℤ) → v ≡ w → int_eq v w ≡ true
    int_same v w e = ap is_eq (cmp_equal v w e)

is_equal : (o : Ordering) → is_eq o ≡ true → o ≡ Equal
is_equal Less h = absurd (cc)
is_equal Equal h = refl
is_equal Greater h = absurd (cc)

less_equal : Less ≡ Equal → ⊥
less_equal h = cc

greater_equal : Greater ≡ Equal → ⊥
greater_equal h = cc

int_tied : (v w : ℤ) → int_eq v w ≡ true → v ≡ w
int_tied v w h =
    let equal = is_equal (int_cmp v w) h in
    by_order v w (λ l. absurd (less_equal (sym (cmp_less v w l) ∙ equal))) (λ e. e)
    (λ g. absurd (greater_equal (sym (cmp_greater v w g) ∙ equal)))

key_equal : (d e : Meant) → same_key d e ≡ true → delivery_cmp d e ≡ Equal
key_equal d e h =
    let one = and_parts (nat_eq e.component d.component) (nat_eq e.port d.port && int_eq e.value d.value) h in
    let two = and_parts (nat_eq e.port d.port) (int_eq e.value d.value) one.1 in
    let c : d.component ≡ e.component = sym (eqb-true e.component d.component one.0) in
    let p : d.port ≡ e.port = sym (eqb-true e.port d.port two.0) in
    let v : d.value ≡ e.value = sym (int_tied e.value d.value two.1) in
    rw (c, p, v) (tied_itself delivery_total e)

equal_key : (d e : Meant) → delivery_cmp d e ≡ Equal → same_key d e ≡ true
equal_key d e h =
    let same = delivery_tied d e h in
    rw (eq-eqb e.component d.component (sym same.0), eq-eqb e.port d.port (sym same.1)) (ap is_eq (cmp_equal e.value d.value (sym same.2)))

abbrev united_with : Meant → Meant → Meant
united_with d e = record { component = e.component; port = e.port; value = e.value; copies = capped (d.copies + e.copies) }

abbrev as_kept : Meant → ℕ → Meant
as_kept d n = record { component = d.component; port = d.port; value = d.value; copies = n }

-- one that comes after none of those in order, with them
by_cmp : (d e : Meant) (o : Ordering) → delivery_cmp d e ≡ o → (o ≡ Greater → ⊥) → (es : List Meant) → capped d.copies ≡ d.copies →
    joined_before d (e ∷ es) ≡ with_delivery d (e ∷ es)
by_cmp d e Greater h le es kept = absurd (le refl)
by_cmp d e Equal h le es kept =
    ap (λ (t : Bool). cond t (united_with d e ∷ es) (d ∷ e ∷ es)) (equal_key d e h)
    ∙ sym (ap (λ (o : Ordering). match_ordering o (as_kept d (capped d.copies) ∷ e ∷ es) (united_with d e ∷ es) (e ∷ with_delivery d es)) h)
by_cmp d e Less h le es kept =
    ap (λ (t : Bool). cond t (united_with d e ∷ es) (d ∷ e ∷ es)) other
    ∙ ap (λ (n : ℕ). as_kept d n ∷ e ∷ es) (sym kept)
    ∙ sym (ap (λ (o : Ordering). match_ordering o (as_kept d (capped d.copies) ∷ e ∷ es) (united_with d e ∷ es) (e ∷ with_delivery d es)) h)
  where
    other : same_key d e ≡ false
    other = elim (yes_or_no (same_key d e)) [
      | inl t ↦ absurd (less_equal (sym h ∙ key_equal d e t))
      | inr f ↦ f
    ]

-- none of those comes before a delivery
abbrev pub NotAfter : Meant → List Meant → Type 0
NotAfter d [] = Unit {0}
NotAfter d (x ∷ xs) = (delivery_cmp d x ≡ Greater → ⊥) × NotAfter d xs

not_after_with : (d x : Meant) (es : List Meant) → (delivery_cmp d x ≡ Greater → ⊥) → NotAfter d es → NotAfter d (with_delivery x es)
not_after_with d x [] h all = (h, tt)
not_after_with d x (e ∷ es) h all = by_order_of (not_after_with d x es h all.1) (delivery_cmp x e)
  where
    by_order_of : NotAfter d (with_delivery x es) → (o : Ordering) →
        NotAfter d (match_ordering o (as_kept x (capped x.copies) ∷ e ∷ es) (united_with x e ∷ es) (e ∷ with_delivery x es))
    by_order_of rest Less = (h, all)
    by_order_of rest Equal = all
    by_order_of rest Greater = (all.0, rest)

not_after_in_order : (d : Meant) (ds : List Meant) → NotAfter d ds → NotAfter d (in_order ds)
not_after_in_order d [] h = tt
not_after_in_order d (x ∷ xs) h = by_test (not_after_in_order d xs h.1) (nat_eq x.copies 0)
  where
    by_test : NotAfter d (in_order xs) → (t : Bool) → NotAfter d (cond t (in_order xs) (with_delivery x (in_order xs)))
    by_test rest true = rest
    by_test rest false = not_after_with d x (in_order xs) h.0 rest

in_front : (d : Meant) (es : List Meant) → NotAfter d es → capped d.copies ≡ d.copies → joined_before d es ≡ with_delivery d es
in_front d [] h kept = ap (λ (n : ℕ). as_kept d n ∷ []) (sym kept)
in_front d (e ∷ es) h kept = by_cmp d e (delivery_cmp d e) refl h.0 es kept

not_after_all : (d : Meant) (ds : List Delivery)
    → ((i : ℕ) (x : Delivery) → i < length ds → delivery_cmp d (delivery_of (get_or ds i x)) ≡ Greater → ⊥) →
    NotAfter d (deliveries_of ds)
not_after_all d [] h = tt
not_after_all d (x ∷ xs) h = (h 0 x (omega arith), not_after_all d xs (λ i y lt. h (suc i) y (omega (arith, lt))))

-- of sorted ones, those behind one do not come before it
behind : (ds : List Delivery) (i j : ℕ) (x : Delivery) → AreSorted ds → i ≤ j → j < length ds →
    delivery_cmp (delivery_of (get_or ds i x)) (delivery_of (get_or ds j x)) ≡ Greater → ⊥
behind ds i j x sorted le lt h =
    let far = sorted_far (λ a b. is_lt (delivery_cmp (delivery_of a) (delivery_of b))) (ranks_by delivery_total delivery_of) ds sorted i j
    x le lt in
    let o = delivery_cmp (delivery_of (get_or ds j x)) (delivery_of (get_or ds i x)) in
    by_reverse o (sym (delivery_total.antisymm (delivery_of (get_or ds i x)) (delivery_of (get_or ds j x))) ∙ h) far
  where
    by_reverse : (o : Ordering) → ordering_reverse o ≡ Greater → is_lt o ≡ false → ⊥
    by_reverse Less e f = absurd (cc)
    by_reverse Equal e f = absurd (cc)
    by_reverse Greater e f = absurd (cc)

-- a step from the last to the first
pub in_order_step : (ds : List Delivery) (i : ℕ) (x : Delivery) (front : List Meant) → AreSorted ds → i < length ds
    → 0 < (get_or ds i x).copies →
    (get_or ds i x).copies < 2 ^ 64 → front ≡ in_order (deliveries_of (drop (i + 1) ds))
    → joined_before (delivery_of (get_or ds i x)) front ≡ in_order (deliveries_of (drop i ds))
in_order_step ds i x front sorted lt some kept so_far =
    let d = delivery_of (get_or ds i x) in
    let rest = deliveries_of (drop (i + 1) ds) in
    let not_after : NotAfter d rest =
    not_after_all d (drop (i + 1) ds)
    (λ j y within.
    let at = get_or-drop (i + 1) ds j y in
    let inside : (i + 1) + j < length ds = omega (arith, within, length-drop (i + 1) ds) in
    let same : get_or ds i x ≡ get_or ds i y = sym (get_or_from_slice_get ds i (get_or ds i x) y (slice_get-get_or ds i x lt)) in
    subst (λ (z : Delivery). delivery_cmp d (delivery_of z) ≡ Greater → ⊥) (sym at)
    (subst (λ (z : Delivery). delivery_cmp (delivery_of z) (delivery_of (get_or ds ((i + 1) + j) y)) ≡ Greater → ⊥) (sym same)
    (behind ds i ((i + 1) + j) y sorted (omega arith) inside))) in
    let copies : nat_eq d.copies 0 ≡ false = differ d.copies 0 (λ e. absurd (omega (arith, some, e))) in
    ap (joined_before d) so_far
    ∙ in_front d (in_order rest) (not_after_in_order d rest not_after) (omega (arith, kept))
    ∙ sym
    (ap (λ (es : List Delivery). in_order (deliveries_of es)) (drop_next ds i (get_or ds i x) lt refl2)
    ∙ ap (λ (t : Bool). cond t (in_order rest) (with_delivery d (in_order rest))) copies)
  where
    refl2 : get_or ds i x ≡ get_or ds i (get_or ds i x)
    refl2 = sym (get_or_from_slice_get ds i (get_or ds i x) (get_or ds i x) (slice_get-get_or ds i x lt))

pub skip_step : (ds : List Delivery) (i : ℕ) (x : Delivery) → i < length ds → ((get_or ds i x).copies ≡ 0)
    → in_order (deliveries_of (drop (i + 1) ds)) ≡ in_order (deliveries_of (drop i ds))
skip_step ds i x lt none =
    let d = delivery_of (get_or ds i x) in
    let rest = deliveries_of (drop (i + 1) ds) in
    sym
    (ap (λ (es : List Delivery). in_order (deliveries_of es))
    (drop_next ds i (get_or ds i x) lt (sym (get_or_from_slice_get ds i (get_or ds i x) (get_or ds i x) (slice_get-get_or ds i x lt))))
    ∙ ap (λ (t : Bool). cond t (in_order rest) (with_delivery d (in_order rest))) (eq-eqb d.copies 0 none))

pub deliveries_turned : (ds : List Delivery) → deliveries_of (reverse ds) ≡ reverse (deliveries_of ds)
deliveries_turned [] = refl
deliveries_turned (d ∷ ds) =
    ap deliveries_of (reverse-append (d ∷ []) ds)
    ∙ map-append delivery_of (reverse ds) (d ∷ [])
    ∙ ap (λ (es : List Meant). es ++ delivery_of d ∷ []) (deliveries_turned ds)
    ∙ sym (reverse-append (delivery_of d ∷ []) (deliveries_of ds))

pub drop_none : (ds : List Delivery) → drop 0 ds ≡ ds
drop_none [] = refl
drop_none (d ∷ ds) = refl
