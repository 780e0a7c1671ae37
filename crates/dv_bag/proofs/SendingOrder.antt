-- What is sent, in order: where a value at a port stands, and that what goes to a port lies as its bag.
use Rattle.std.proofs.Common.{◌≡◌, inl, inr, ℕ, zero, suc, ◌+◌, ◌-◌, ◌^◌, ◌<◌, ◌≤◌, Bool, true, false, ◌&&◌, cond, nat_eq, List, [], ◌∷◌}
use Rattle.std.proofs.Common.{length, get_or, set, ℤ, ◌<ℤ◌, Result, Ok, Err, IfOk, IfErr, refl, sym, ap, ◌∙◌, subst, arith}
use Rattle.std.specs.Cmp.Lexicographic.{pointwise}
use Rattle.std.specs.Bool.{Decides}
use Rattle.std.specs.List.{insert, refill}
use Rattle.std.specs.List.Sorted.{IsBinarySearchResult, IsNonDecreasingBy, IsSearchInRange}
use Rattle.std.specs.Ordering.{MatchOrdering, int_cmp, int_eq, nat_cmp, ordering_index, ordering_then}
use Rattle.std.specs.declared.cmp.Ordering.{Ordering}
use Rattle.std.specs.declared.cmp.Ordering.TheVariants.{Less, Equal, Greater}
use Rattle.std.proofs.lemmas.Bool.{cases_Bool, cases_lt, eq-eqb, eqb-false, eqb-true, ne_eqb}
use Rattle.std.proofs.lemmas.Bool.Decides.{Decides-and, Decides-eqb, Decides-int_eq, Decides-like, same_from_decides}
use Rattle.std.proofs.lemmas.Cmp.{int_ranked, ranked}
use Rattle.std.proofs.lemmas.Int.{ints}
use Rattle.std.proofs.lemmas.List.{get_or_default}
use Rattle.std.proofs.lemmas.List.Sorted.{IsNonDecreasingBy-from_default}
use Rattle.std.proofs.lemmas.Slice.Eq.{slice_eq-Decides}
use Rattle.dv_bag.specs.Bag.{Counts, IsAbove, IsBag, bag_at, capped, union, with_copies}
use Rattle.dv_bag.specs.Same.{same_bags, same_bags-decides}
use Rattle.dv_bag.specs.Sent.{AreAfter, AreInOrder, AreWithin, ComesBefore, HasCopiesAt, IsIndexOf, RiseFrom, by_port}
use Rattle.dv_bag.specs.Sent.{pairs_at, sending_cmp, sent_at, sent_into}
use Rattle.dv_bag.specs.declared.sent.Sending.{Sending}
use Rattle.dv_bag.proofs.Monoid.{union_unit}
use Rattle.dv_bag.proofs.Pairs.{refill-set}
use Rattle.dv_bag.proofs.Sendings.{as_many_ports, bag_of_port, edited, no_sending, put_other, put_same, same_bag_at, sending}
use Rattle.dv_bag.proofs.Sendings.{set_other, set_same}
use Rattle.dv_bag.proofs.Sendings.{within_put, within_set}

-- what comes before the first of two comes before the second
before_later : (p q r : ℕ) (v w z : ℤ) → ComesBefore p v q w → ComesBefore q w r z → ComesBefore p v r z
before_later p q r v w z h k = (
  omega (arith, h.0, k.0),
  λ e.
      let first = h.1 (omega (arith, h.0, k.0, e)) in
      let second = k.1 (omega (arith, h.0, k.0, e)) in
      omega (arith, ints, first, second),
)

-- what the comparison of two says of their order
sending_ranked : (p q : ℕ) (v w : ℤ) (o : Ordering) → o ≡ sending_cmp p v q w →
    MatchOrdering o (ComesBefore p v q w) ((p ≡ q) × (v ≡ w)) (ComesBefore q w p v)
sending_ranked p q v w o e =
    subst (λ (k : Ordering). MatchOrdering k (ComesBefore p v q w) ((p ≡ q) × (v ≡ w)) (ComesBefore q w p v)) (sym e)
    (both (nat_cmp p q) (ranked p q _ refl) (int_cmp v w) (int_ranked v w _ refl))
  where
    both : (a : Ordering) → MatchOrdering a (p < q) (p ≡ q) (q < p) → (b : Ordering) →
        MatchOrdering b (v <ℤ w) (v ≡ w) (w <ℤ v) →
        MatchOrdering (ordering_then a b) (ComesBefore p v q w) ((p ≡ q) × (v ≡ w)) (ComesBefore q w p v)
    both Less h b k = (omega (arith, h), λ same. absurd (omega (arith, h, same)))
    both Equal h Less k = (omega (arith, h), λ same. k)
    both Equal h Equal k = (h, k)
    both Equal h Greater k = (omega (arith, h), λ same. k)
    both Greater h b k = (omega (arith, h), λ same. absurd (omega (arith, h, same)))

-- beside a third, the earlier of two is never the greater one
index_rises : (p q r : ℕ) (v w z : ℤ) → ComesBefore p v q w →
    ordering_index (sending_cmp p v r z) ≤ ordering_index (sending_cmp q w r z)
index_rises p q r v w z before =
    step (sending_cmp p v r z) (sending_ranked p r v z _ refl) (sending_cmp q w r z) (sending_ranked q r w z _ refl)
  where
    apart : (s : ℕ) (a b : ℤ) → ComesBefore s a s b → a ≡ b → ⊥
    apart s a b h same = let less = h.1 refl in omega (arith, ints, less, same)

    step : (a : Ordering) → MatchOrdering a (ComesBefore p v r z) ((p ≡ r) × (v ≡ z)) (ComesBefore r z p v) → (b : Ordering) →
        MatchOrdering b (ComesBefore q w r z) ((q ≡ r) × (w ≡ z)) (ComesBefore r z q w) → ordering_index a ≤ ordering_index b
    step Less h b k = omega arith
    step Equal h Greater k = omega arith
    step Greater h Greater k = omega arith
    step Equal h Equal k = omega arith
    step Equal h Less k =
        let both = before_later p q r v w z before k in
        absurd (apart r v z (subst (λ (s : ℕ). ComesBefore s v r z) h.0 both) h.1)
    step Greater h Equal k =
        let both = before_later r p q z v w h before in
        absurd (apart r z w (subst (λ (s : ℕ). ComesBefore r z s w) k.0 both) (sym k.1))
    step Greater h Less k = absurd (apart r z z (before_later r p r z v z h (before_later p q r v w z before k)) refl)

-- each sending of a list in order comes before each later one
rest_in_order : (p : ℕ) (v : ℤ) (ss : List Sending) → AreAfter p v ss → AreInOrder ss
rest_in_order p v [] h = tt
rest_in_order p v (s ∷ ss) h = h.1

after_first : (p : ℕ) (v : ℤ) (ss : List Sending) (i : ℕ) (d : Sending) → AreAfter p v ss → i < length ss →
    ComesBefore p v (get_or ss i d).port (get_or ss i d).value
after_first p v [] i d h lt = absurd (omega arith)
after_first p v (s ∷ ss) zero d h lt = h.0
after_first p v (s ∷ ss) (suc i) d h lt =
    let next = get_or ss i d in
    before_later p s.port next.port v s.value next.value h.0 (after_first s.port s.value ss i d h.1 (omega (arith, lt)))

comes_before : (ss : List Sending) (i j : ℕ) (d : Sending) → AreInOrder ss → i < j → j < length ss →
    ComesBefore (get_or ss i d).port (get_or ss i d).value (get_or ss j d).port (get_or ss j d).value
comes_before [] i j d h lt within = absurd (omega arith)
comes_before (s ∷ ss) i zero d h lt within = absurd (omega arith)
comes_before (s ∷ ss) zero (suc j) d h lt within = after_first s.port s.value ss j d h (omega (arith, within))
comes_before (s ∷ ss) (suc i) (suc j) d h lt within =
    comes_before ss i j d (rest_in_order s.port s.value ss h) (omega (arith, lt)) (omega (arith, within))

-- what rises with the order rises along the list
rise_in_order : (n : Sending → ℕ) → ((s t : Sending) → ComesBefore s.port s.value t.port t.value → n s ≤ n t) →
    (ss : List Sending) → AreInOrder ss → IsNonDecreasingBy n ss
rise_in_order n keeps ss h = IsNonDecreasingBy-from_default n ss no_sending (λ i j le lt. elim (cases_lt i j) [
  | inl less ↦ keeps (get_or ss i no_sending) (get_or ss j no_sending) (comes_before ss i j no_sending h less lt)
  | inr more ↦ let same : n (get_or ss i no_sending) ≡ n (get_or ss j no_sending)
      = ap (λ (k : ℕ). n (get_or ss k no_sending)) (omega arith) in omega arith
])

-- the ports never fall
pub rise_by_port : (ss : List Sending) → AreInOrder ss → IsNonDecreasingBy (λ (s : Sending). s.port) ss
rise_by_port ss h = rise_in_order (λ (s : Sending). s.port) (λ s t before. before.0) ss h

rise_after : (p : ℕ) (v : ℤ) (ss : List Sending) → AreAfter p v ss → RiseFrom p ss
rise_after p v [] h = tt
rise_after p v (s ∷ ss) h = let first = h.0 in (first.0, rise_after s.port s.value ss h.1)

pub ports_rise : (ss : List Sending) → AreInOrder ss → RiseFrom 0 ss
ports_rise [] h = tt
ports_rise (s ∷ ss) h = (omega arith, rise_after s.port s.value ss h)

-- a binary search ends at the value at its port, or at the gap for it
pub searched_sendings : (p : ℕ) (v : ℤ) (ss : List Sending) (r : Result ℕ ℕ) → AreInOrder ss → IsSearchInRange r (length ss) →
    IsBinarySearchResult (λ (s : Sending). sending_cmp s.port s.value p v) ss r →
    record { found : IfOk r (λ index. HasCopiesAt p v index ss); absent : IfErr r (λ index. IsIndexOf p v index ss) }
searched_sendings p v ss (Ok at) h within equal = record {
  found = (within, λ d. let s = get_or ss at d in sending_ranked s.port p s.value v _ (sym (equal d)));
  absent = tt;
}
searched_sendings p v ss (Err at) h within parted =
    let apart = parted (rise_in_order (λ (s : Sending). ordering_index (sending_cmp s.port s.value p v))
    (λ s t before. index_rises s.port t.port p s.value t.value v before) ss h) in
    record {
      found = tt;
      absent = (
        within,
        λ k d le lt. let s = get_or ss k d in sending_ranked s.port p s.value v _ (sym (apart.0 k d le lt)),
        λ k d le lt. let s = get_or ss k d in sending_ranked s.port p s.value v _ (sym (apart.1 k d le lt)),
      );
    }

-- what comes after the last sending goes in behind it
pub behind_last : (p : ℕ) (v : ℤ) (ss : List Sending) (d : Sending) → AreInOrder ss → 1 ≤ length ss →
    sending_cmp (get_or ss (length ss - 1) d).port (get_or ss (length ss - 1) d).value p v ≡ Less → IsIndexOf p v (length ss) ss
behind_last p v ss d h some less =
    let last = get_or ss (length ss - 1) d in
    let before = sending_ranked last.port p last.value v Less (sym less) in (
      omega arith,
      λ k e le lt.
          subst (λ (s : Sending). ComesBefore s.port s.value p v) (get_or_default ss k d e lt)
          (elim (cases_lt k (length ss - 1)) [
            | inl early ↦
                let s = get_or ss k d in
                before_later s.port last.port p s.value last.value v
                (comes_before ss k (length ss - 1) d h early (omega (arith, some))) before
            | inr late ↦
                subst (λ (i : ℕ). ComesBefore (get_or ss i d).port (get_or ss i d).value p v)
                (let here : length ss - 1 ≡ k = omega (arith, lt, late, some) in here) before
          ]),
      λ k e le lt. absurd (omega (arith, le, lt)),
    )

-- an index behind the first is an index in the rest
index_behind : (p : ℕ) (v : ℤ) (i : ℕ) (s : Sending) (ss : List Sending) → IsIndexOf p v (suc i) (s ∷ ss) →
    ComesBefore s.port s.value p v × IsIndexOf p v i ss
index_behind p v i s ss at = (
  at.1 0 s (omega arith) (omega arith),
  (
    omega (arith, at.0),
    λ k d le lt. at.1 (suc k) d (omega arith) (omega (arith, lt)),
    λ k d le lt. at.2 (suc k) d (omega (arith, le)) (omega (arith, lt)),
  ),
)

-- an edit at its index keeps the order
put_after : (p : ℕ) (v : ℤ) (ss : List Sending) (i : ℕ) (s : Sending) → AreAfter p v ss → ComesBefore p v s.port s.value →
    IsIndexOf s.port s.value i ss → AreAfter p v (insert ss i s)
put_after p v [] zero s h before at = (before, tt)
put_after p v (x ∷ xs) zero s h before at = (before, (at.2 0 x (omega arith) (omega arith), h.1))
put_after p v [] (suc i) s h before at = absurd (omega (arith, at.0))
put_after p v (x ∷ xs) (suc i) s h before at =
    let behind = index_behind s.port s.value i x xs at in
    (h.0, put_after x.port x.value xs i s h.1 behind.0 behind.1)

put_in_order : (ss : List Sending) (i : ℕ) (s : Sending) → AreInOrder ss → IsIndexOf s.port s.value i ss →
    AreInOrder (insert ss i s)
put_in_order [] zero s h at = tt
put_in_order (x ∷ xs) zero s h at = (at.2 0 x (omega arith) (omega arith), h)
put_in_order [] (suc i) s h at = absurd (omega (arith, at.0))
put_in_order (x ∷ xs) (suc i) s h at =
    let behind = index_behind s.port s.value i x xs at in
    put_after x.port x.value xs i s h behind.0 behind.1

set_after : (p : ℕ) (v : ℤ) (ss : List Sending) (i : ℕ) (s : Sending) → AreAfter p v ss → HasCopiesAt s.port s.value i ss →
    AreAfter p v (set ss i s)
set_after p v [] i s h at = tt
set_after p v (x ∷ xs) zero s h at =
    let same = at.1 x in (
      subst (λ (q : ℕ). ComesBefore p v q s.value) same.0 (subst (ComesBefore p v x.port) same.1 h.0),
      subst (λ (q : ℕ). AreAfter q s.value xs) same.0 (subst (λ (w : ℤ). AreAfter x.port w xs) same.1 h.1),
    )
set_after p v (x ∷ xs) (suc i) s h at = (h.0, set_after x.port x.value xs i s h.1 (omega (arith, at.0), λ d. at.1 d))

set_in_order : (ss : List Sending) (i : ℕ) (s : Sending) → AreInOrder ss → HasCopiesAt s.port s.value i ss →
    AreInOrder (set ss i s)
set_in_order [] i s h at = tt
set_in_order (x ∷ xs) zero s h at =
    let same = at.1 x in
    subst (λ (q : ℕ). AreAfter q s.value xs) same.0 (subst (λ (w : ℤ). AreAfter x.port w xs) same.1 h)
set_in_order (x ∷ xs) (suc i) s h at = set_after x.port x.value xs i s h (omega (arith, at.0), λ d. at.1 d)

-- what the code of an insertion leaves
module _ (ports port : ℕ) (v w : ℤ) (items : List Sending) (number : w ≡ v) (h : AreWithin ports items) (lt : port < ports) where
  found_sum : (index c : ℕ) → HasCopiesAt port w index items → c ≡ capped ((get_or items index no_sending).copies + 1) →
      by_port ports (set items index (sending port w c))
      ≡ set (by_port ports items) port (with_copies w 1 (bag_at (by_port ports items) port))
  found_sum index c at sum =
      edited items (set items index (sending port w c)) ports port w 1 h lt (set_same port w c items index [] at sum)
      (λ p apart. set_other port p w c items index [] apart at)

  pub found : (slice read : List Sending) (index c : ℕ) → slice ≡ items → read ≡ items → HasCopiesAt port w index items →
      c ≡ capped ((get_or read index no_sending).copies + 1) →
      by_port ports (refill (length items) items (set slice index (sending port w c)))
      ≡ set (by_port ports items) port (with_copies v 1 (bag_at (by_port ports items) port))
  found slice read index c wrote seen at sum =
      ap (λ (xs : List Sending). by_port ports (refill (length items) items (set xs index (sending port w c)))) wrote
      ∙ ap (by_port ports) (refill-set items index (sending port w c))
      ∙ found_sum index c at (subst (λ (xs : List Sending). c ≡ capped ((get_or xs index no_sending).copies + 1)) seen sum)
      ∙ ap (λ (z : ℤ). set (by_port ports items) port (with_copies z 1 (bag_at (by_port ports items) port))) number

  pub found_within : (slice : List Sending) (index c : ℕ) → slice ≡ items → 0 < c → c < 2 ^ 64 → AreInOrder items →
      HasCopiesAt port w index items →
      AreWithin ports (refill (length items) items (set slice index (sending port w c)))
      × AreInOrder (refill (length items) items (set slice index (sending port w c)))
  found_within slice index c wrote some kept order at =
      let s = sending port w c in
      let new = ap (λ (xs : List Sending). refill (length items) items (set xs index s)) wrote ∙ refill-set items index s in
      subst (λ (xs : List Sending). AreWithin ports xs × AreInOrder xs) (sym new) (
        within_set ports items index s h lt some kept,
        set_in_order items index s order at,
      )

  pub put : (index : ℕ) (new : List Sending) → new ≡ insert items index (sending port w 1) →
      by_port ports new ≡ set (by_port ports items) port (with_copies v 1 (bag_at (by_port ports items) port))
  put index new e =
      ap (by_port ports) e
      ∙ edited items (insert items index (sending port w 1)) ports port w 1 h lt (put_same (sending port w 1) items index)
      (λ p apart. put_other p (sending port w 1) items index apart)
      ∙ ap (λ (z : ℤ). set (by_port ports items) port (with_copies z 1 (bag_at (by_port ports items) port))) number

  pub put_within : (index : ℕ) (new : List Sending) → new ≡ insert items index (sending port w 1) → AreInOrder items →
      IsIndexOf port w index items → AreWithin ports new × AreInOrder new
  put_within index new e order at =
      subst (λ (xs : List Sending). AreWithin ports xs × AreInOrder xs) (sym e) (
        within_put ports items index (sending port w 1) h lt (omega arith) (omega arith),
        put_in_order items index (sending port w 1) order at,
      )

-- the first sending goes to the port, or elsewhere
first_pair : (p : ℕ) (s : Sending) (ss : List Sending) → s.port ≡ p → pairs_at p (s ∷ ss) ≡ (s.value, s.copies) ∷ pairs_at p ss
first_pair p s ss e = ap (λ (t : Bool). cond t ((s.value, s.copies) ∷ pairs_at p ss) (pairs_at p ss)) (eq-eqb s.port p e)

no_first_pair : (p : ℕ) (s : Sending) (ss : List Sending) → (s.port ≡ p → ⊥) → pairs_at p (s ∷ ss) ≡ pairs_at p ss
no_first_pair p s ss apart = ap (λ (t : Bool). cond t ((s.value, s.copies) ∷ pairs_at p ss) (pairs_at p ss)) (ne_eqb s.port p apart)

-- nothing goes to a port below the first
no_pairs : (p low : ℕ) (ss : List Sending) → RiseFrom low ss → p < low → pairs_at p ss ≡ []
no_pairs p low [] h lt = refl
no_pairs p low (s ∷ ss) h lt =
    no_first_pair p s ss (λ e. absurd (omega (arith, h.0, e))) ∙ no_pairs p s.port ss h.1 (omega (arith, h.0, lt))

-- the pairs of a port are a bag
pairs_above : (ports p : ℕ) (v : ℤ) (ss : List Sending) → AreWithin ports ss → AreAfter p v ss →
    IsAbove v (pairs_at p ss)
pairs_above ports p v [] within h = tt
pairs_above ports p v (s ∷ ss) within h = elim (cases_Bool (nat_eq s.port p)) [
  | inl here ↦
      let e : s.port ≡ p = eqb-true s.port p here in
      let first = h.0 in
      let rest = pairs_above ports s.port s.value ss within.3 h.1 in
      subst (IsAbove v) (sym (first_pair p s ss e)) (
        first.1 (sym e),
        within.1,
        within.2,
        subst (λ (q : ℕ). IsAbove s.value (pairs_at q ss)) e rest,
      )
  | inr there ↦
      let apart = eqb-false s.port p there in
      let first = h.0 in
      subst (IsAbove v) (sym (no_first_pair p s ss apart
      ∙ no_pairs p s.port ss (rise_after s.port s.value ss h.1) (omega (arith, first.0, apart)))) tt
]

pairs_bag : (ports p : ℕ) (ss : List Sending) → AreWithin ports ss → AreInOrder ss → IsBag (pairs_at p ss)
pairs_bag ports p [] within h = tt
pairs_bag ports p (s ∷ ss) within h = elim (cases_Bool (nat_eq s.port p)) [
  | inl here ↦
      let e : s.port ≡ p = eqb-true s.port p here in
      let rest = pairs_above ports s.port s.value ss within.3 h in
      subst IsBag (sym (first_pair p s ss e)) (
        within.1,
        within.2,
        subst (λ (q : ℕ). IsAbove s.value (pairs_at q ss)) e rest,
      )
  | inr there ↦
      subst IsBag (sym (no_first_pair p s ss (eqb-false s.port p there)))
      (pairs_bag ports p ss within.3 (rest_in_order s.port s.value ss h))
]

-- a bag and what goes to a port are both together
sent_union : (p : ℕ) (ss : List Sending) (b : Counts) → sent_into p ss b ≡ union b (pairs_at p ss)
sent_union p [] b = refl
sent_union p (s ∷ ss) b = step (nat_eq s.port p) (λ c. sent_union p ss c)
  where
    step : (t : Bool) → ((c : Counts) → sent_into p ss c ≡ union c (pairs_at p ss)) →
        sent_into p ss (cond t (with_copies s.value s.copies b) b)
        ≡ union b (cond t ((s.value, s.copies) ∷ pairs_at p ss) (pairs_at p ss))
    step true rest = rest (with_copies s.value s.copies b)
    step false rest = rest b

-- what goes to a port lies as its bag
pub pairs_sent : (ports p : ℕ) (ss : List Sending) → AreWithin ports ss → AreInOrder ss →
    pairs_at p ss ≡ sent_at p ss
pairs_sent ports p ss within h = sym (sent_union p ss [] ∙ union_unit (pairs_at p ss) (pairs_bag ports p ss within h))

pub pairs_of_port : (ports p : ℕ) (ss : List Sending) → AreWithin ports ss → AreInOrder ss →
    pairs_at p ss ≡ bag_at (by_port ports ss) p
pairs_of_port ports p ss within h = pairs_sent ports p ss within h ∙ sym (bag_of_port ports p ss within)

-- sendings are equal where their fields are
same_fields : (s t : Sending) → s.port ≡ t.port → s.value ≡ t.value → s.copies ≡ t.copies → s ≡ t
same_fields s t port value copies = λ i. record { port = port i; value = value i; copies = copies i }

-- where a list begins with a port, that port has pairs, and no list from a greater port on has them
not_empty : (s : Sending) (ss : List Sending) → pairs_at s.port (s ∷ ss) ≡ [] → ⊥
not_empty s ss e = omega (arith, ap length (sym (first_pair s.port s ss refl) ∙ e))

not_below : (s u : Sending) (ss us : List Sending) → AreInOrder (u ∷ us) → pairs_at s.port (s ∷ ss) ≡ pairs_at s.port (u ∷ us) →
    s.port < u.port → ⊥
not_below s u ss us k same lt =
    not_empty s ss (same ∙ no_pairs s.port u.port (u ∷ us) (omega arith, rise_after u.port u.value us k) lt)

same_port : (s u : Sending) (ss us : List Sending) → AreInOrder (s ∷ ss) → AreInOrder (u ∷ us) →
    ((p : ℕ) → pairs_at p (s ∷ ss) ≡ pairs_at p (u ∷ us)) → s.port ≡ u.port
same_port s u ss us h k same = elim (cases_lt s.port u.port) [
  | inl lt ↦ absurd (not_below s u ss us k (same s.port) lt)
  | inr ge ↦ elim (cases_lt u.port s.port) [
    | inl gt ↦ absurd (not_below u s us ss h (sym (same u.port)) gt)
    | inr le ↦ omega arith
  ]
]

-- lists in order with the same pairs at each port are equal
same_pairs_same_list : (ss us : List Sending) → AreInOrder ss → AreInOrder us → ((p : ℕ) → pairs_at p ss ≡ pairs_at p us) → ss ≡ us
same_pairs_same_list [] [] h k same = refl
same_pairs_same_list [] (u ∷ us) h k same = absurd (not_empty u us (sym (same u.port)))
same_pairs_same_list (s ∷ ss) [] h k same = absurd (not_empty s ss (same s.port))
same_pairs_same_list (s ∷ ss) (u ∷ us) h k same =
    let port : s.port ≡ u.port = same_port s u ss us h k same in
    let pairs : (s.value, s.copies) ∷ pairs_at s.port ss ≡ (u.value, u.copies) ∷ pairs_at s.port us
    = sym (first_pair s.port s ss refl) ∙ same s.port ∙ first_pair s.port u us (sym port) in
    let tails : pairs_at s.port ss ≡ pairs_at s.port us = cc in
    let front : (s.value, s.copies) ≡ (u.value, u.copies) = cc in
    let value : s.value ≡ u.value = ap (λ (x : ℤ × ℕ). x.0) front in
    let copies : s.copies ≡ u.copies = ap (λ (x : ℤ × ℕ). x.1) front in
    let rest : ss ≡ us = same_pairs_same_list ss us (rest_in_order s.port s.value ss h) (rest_in_order u.port u.value us k) (λ p.
    elim (cases_Bool (nat_eq s.port p)) [
      | inl here ↦
          subst (λ (q : ℕ). pairs_at q ss ≡ pairs_at q us) (eqb-true s.port p here) tails
      | inr there ↦
          sym (no_first_pair p s ss (eqb-false s.port p there)) ∙ same p
          ∙ no_first_pair p u us (λ e. eqb-false s.port p there (port ∙ e))
    ]) in
    ap (λ (x : Sending). x ∷ ss) (same_fields s u port value copies) ∙ ap (λ (xs : List Sending). u ∷ xs) rest

-- a test of all fields
abbrev pub same_sending : Sending → Sending → Bool
same_sending s t = nat_eq s.port t.port && (int_eq s.value t.value && nat_eq s.copies t.copies)

same_sending-decides : (s t : Sending) → Decides (same_sending s t) (s ≡ t)
same_sending-decides s t = Decides-like (same_sending s t)
    (λ (fields : (s.port ≡ t.port) × ((s.value ≡ t.value) × (s.copies ≡ t.copies))).
    let rest = fields.1 in same_fields s t fields.0 rest.0 rest.1)
    (λ e. (ap (λ (u : Sending). u.port) e, (ap (λ (u : Sending). u.value) e, ap (λ (u : Sending). u.copies) e)))
    (Decides-and (nat_eq s.port t.port) (int_eq s.value t.value && nat_eq s.copies t.copies) (Decides-eqb s.port t.port)
    (Decides-and (int_eq s.value t.value) (nat_eq s.copies t.copies) (Decides-int_eq s.value t.value)
    (Decides-eqb s.copies t.copies)))

-- lists in order are equal where their bags are
module _ (m n : ℕ) (ss us : List Sending) (within : AreWithin m ss) (order : AreInOrder ss)
    (other_within : AreWithin n us) (other_order : AreInOrder us) where
  same_list : by_port m ss ≡ by_port n us → ss ≡ us
  same_list same = same_pairs_same_list ss us order other_order (λ p.
      pairs_sent m p ss within order ∙ same_bag_at m n ss us within other_within same p
      ∙ sym (pairs_sent n p us other_within other_order))

  pub lists_compared : m ≡ n → (r : Bool) → r ≡ pointwise same_sending ss us → r ≡ same_bags (by_port m ss) (by_port n us)
  lists_compared ports r is =
      same_from_decides r (same_bags (by_port m ss) (by_port n us))
      (Decides-like r (λ e. ap (λ (k : ℕ). by_port k ss) ports ∙ ap (by_port n) e) same_list
      (slice_eq-Decides same_sending-decides ss us r is))
      (same_bags-decides (by_port m ss) (by_port n us))

  pub ports_compared : (m ≡ n → ⊥) → nat_eq m n ≡ same_bags (by_port m ss) (by_port n us)
  ports_compared apart =
      same_from_decides (nat_eq m n) (same_bags (by_port m ss) (by_port n us))
      (Decides-like (nat_eq m n) (λ e. absurd (apart e)) (as_many_ports m n ss us within other_within) (Decides-eqb m n))
      (same_bags-decides (by_port m ss) (by_port n us))
