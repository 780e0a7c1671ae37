-- How often a value comes to a port: that alone decides the bag that deliveries make there.
use Rattle.std.proofs.Common.{◌≡◌, ℕ, ◌+◌, ◌^◌, ◌<◌, ◌≤◌, Bool, true, false, ◌&&◌, cond, nat_eq, List, [], ◌∷◌}
use Rattle.std.proofs.Common.{length, get_or, ℤ, ◌<ℤ◌, sum_by, IsPermutation, IsTrue, refl, sym, ap}
use Rattle.std.proofs.Common.{◌∙◌, subst, arith}
use Rattle.std.proofs.lemmas.List.Sums.{sum_by-cons}
use Rattle.std.proofs.lemmas.List.Sorted.{IsPermutation-map}
use Rattle.std.proofs.lemmas.List.Sorted.{sum_by-IsPermutation}
use Rattle.std.specs.Int.Signed.{<ℤ_irrefl}
use Rattle.std.specs.Ordering.{int_cmp, is_lt, nat_cmp, ordering_then}
use Rattle.std.specs.declared.cmp.Ordering.{Ordering}
use Rattle.dv_bag.specs.Bag.{Counts, IsBag, capped, count_of, with_copies}
use Rattle.dv_bag.proofs.Monoid.{by_order, count_kept, count_with_other, count_with_same, same_counts_same_bag}
use Rattle.dv_bag.proofs.Pairs.{with_copies_bag}
use Rattle.dv_devs.specs.Behaviour.{all_empty}
use Rattle.dv_conservative.specs.Links.{Delivery as Meant, delivered}
use Rattle.dv_share.specs.Links.{deliveries_of, delivery_of}
use Rattle.dv_share.specs.declared.link.Delivery.{Delivery}
use Rattle.std.specs.declared.cmp.Ordering.TheVariants.{Less, Equal, Greater}
use Rattle.dv_conservative.specs.Events.{delivery_cmp}
use Rattle.dv_share.specs.Rows.{AreSorted}
use Rattle.dv_share.specs.Share.{AreReceived, inbox_of}
use Rattle.dv_share.specs.declared.index.Indexed.{Indexed}
use Rattle.dv_share.specs.declared.tables.Member.{Member}
use Rattle.dv_share.proofs.Inboxes.{inbox_same}

false_true : false ≡ true → ⊥
false_true h = cc

-- how many copies of a value a delivery brings to a port
abbrev pub brought : ℕ → ℕ → ℤ → Meant → ℕ
brought k port v d = cond (nat_eq d.component k && nat_eq d.port port) (count_of v (with_copies d.value d.copies [])) 0

module _ (k port : ℕ) where
  pub is_bag : (ds : List Meant) → IsBag (delivered k port ds [])
  is_bag [] = tt
  is_bag (d ∷ ds) = by_test (is_bag ds) (nat_eq d.component k && nat_eq d.port port)
    where
      by_test : IsBag (delivered k port ds []) → (t : Bool)
          → IsBag (cond t (with_copies d.value d.copies (delivered k port ds [])) (delivered k port ds []))
      by_test rest true = with_copies_bag d.value d.copies (delivered k port ds []) rest
      by_test rest false = rest

-- copies add up
count_add : (v w : ℤ) (n : ℕ) (b : Counts) → IsBag b → count_of v (with_copies w n b)
    ≡ capped (count_of v b + count_of v (with_copies w n []))
count_add v w n b h =
    let kept = count_kept v b h in
    by_order v w (λ less. other (λ e. not_less (subst (λ (x : ℤ). v <ℤ x) (sym e) less)) kept)
    (λ e. same e kept)
    (λ less. other (λ e. not_less (subst (λ (x : ℤ). x <ℤ v) (sym e) less)) kept)
  where
    not_less : v <ℤ v → ⊥
    not_less h = <ℤ_irrefl h

    other : (v ≡ w → ⊥) → count_of v b < 2 ^ 64 → count_of v (with_copies w n b) ≡ capped (count_of v b + count_of v (with_copies w n []))
    other apart kept =
        let here = count_with_other v w n b apart in
        let none : count_of v (with_copies w n []) ≡ 0 = count_with_other v w n [] apart in
        omega (arith, here, none, kept)

    same : v ≡ w → count_of v b < 2 ^ 64 → count_of v (with_copies w n b) ≡ capped (count_of v b + count_of v (with_copies w n []))
    same e kept =
        let here : count_of v (with_copies w n b) ≡ capped (count_of v b + n) =
        subst (λ (x : ℤ). count_of v (with_copies x n b) ≡ capped (count_of v b + n)) e (count_with_same v n b h) in
        let one : count_of v (with_copies w n []) ≡ capped (0 + n) =
        subst (λ (x : ℤ). count_of v (with_copies x n []) ≡ capped (0 + n)) e (count_with_same v n [] tt) in
        omega (arith, here, one, kept)

module _ (k port : ℕ) (v : ℤ) where
  count_delivered : (ds : List Meant) → count_of v (delivered k port ds []) ≡ capped (sum_by (brought k port v) ds)
  count_delivered [] = refl
  count_delivered (d ∷ ds) =
      by_test (count_delivered ds) (nat_eq d.component k && nat_eq d.port port) ∙ sym (ap capped (sum_by-cons (brought k port v) d ds))
    where
      by_test : count_of v (delivered k port ds []) ≡ capped (sum_by (brought k port v) ds) → (t : Bool) →
          count_of v (cond t (with_copies d.value d.copies (delivered k port ds [])) (delivered k port ds []))
          ≡ capped (cond t (count_of v (with_copies d.value d.copies [])) 0 + sum_by (brought k port v) ds)
      by_test rest true =
          let added = count_add v d.value d.copies (delivered k port ds []) (is_bag k port ds) in
          omega (arith, added, rest)
      by_test rest false = omega (arith, rest)

-- deliveries that bring each value as often make the same bag
pub delivered_by_sums : (k port : ℕ) (ds es : List Meant) → ((v : ℤ) → sum_by (brought k port v) ds ≡ sum_by (brought k port v) es) →
    delivered k port ds [] ≡ delivered k port es []
delivered_by_sums k port ds es h =
    same_counts_same_bag (delivered k port ds []) (delivered k port es []) (is_bag k port ds) (is_bag k port es)
    (λ v. count_delivered k port v ds ∙ ap capped (h v) ∙ sym (count_delivered k port v es))

-- by component, port, value and copies
abbrev full_cmp : Delivery → Delivery → Ordering
full_cmp a b =
    ordering_then (nat_cmp a.component b.component)
    (ordering_then (nat_cmp a.port b.port) (ordering_then (int_cmp a.value b.value) (nat_cmp a.copies b.copies)))

pub moved_delivers : (sorted all : List Delivery) → IsPermutation all sorted → (k port : ℕ) → delivered k port (deliveries_of sorted) []
    ≡ delivered k port (deliveries_of all) []
moved_delivers sorted all same k port =
    delivered_by_sums k port (deliveries_of sorted) (deliveries_of all)
    (λ v. sum_by-IsPermutation (brought k port v) (deliveries_of all) (deliveries_of sorted)
    (IsPermutation-map delivery_of all sorted same))

-- what is received of deliveries is received of them in any order
pub received_moved : (ms : List Member) (ds es : List Delivery) (xs : List (Indexed (List Counts))) → IsPermutation es ds
    → AreReceived ms (deliveries_of ds) xs → AreReceived ms (deliveries_of es) xs
received_moved ms ds es xs moved h = record {
  indices = h.indices;
  bags = λ i x lt m at. h.bags i x lt m at ∙ same m;
  rest = λ p m at out. subst (λ (bags : List Counts). IsTrue (all_empty bags)) (same m) (h.rest p m at out);
}
  where
    same : (m : Member) → inbox_of m (deliveries_of ds) ≡ inbox_of m (deliveries_of es)
    same m = inbox_same m.number (deliveries_of ds) (deliveries_of es) 0 m.inputs (moved_delivers ds es moved m.number)

key_less : (a b : Delivery) → is_lt (full_cmp a b) ≡ false → is_lt (delivery_cmp (delivery_of a) (delivery_of b)) ≡ false
key_less a b = by_orders (nat_cmp a.component b.component) (nat_cmp a.port b.port) (int_cmp a.value b.value) (nat_cmp a.copies b.copies)
  where
    by_orders : (o p q r : Ordering) → is_lt (ordering_then o (ordering_then p (ordering_then q r))) ≡ false
        → is_lt (ordering_then o (ordering_then p q)) ≡ false
    by_orders Less p q r h = h
    by_orders Greater p q r h = refl
    by_orders Equal Less q r h = h
    by_orders Equal Greater q r h = refl
    by_orders Equal Equal Less r h = h
    by_orders Equal Equal Greater r h = refl
    by_orders Equal Equal Equal r h = refl

pub sorted_keys : (ds : List Delivery)
    → ((k : ℕ) (d : Delivery) → 0 ≤ k → k + 1 < length ds → is_lt (full_cmp (get_or ds (k + 1) d) (get_or ds k d)) ≡ false) → AreSorted ds
sorted_keys ds h = λ k d le lt. key_less (get_or ds (k + 1) d) (get_or ds k d) (h k d le lt)
