-- What leaves of disjoint sets of components, united by time and port.
use Rattle.std.proofs.Common.{◌≡◌, ◌⊎◌, inl, inr, ℕ, suc, zero, ◌+◌, ◌<◌, ◌≤◌, Bool, true, false, not, ◌||◌, cond, nat_eq, List}
use Rattle.std.proofs.Common.{[], ◌∷◌, ◌++◌, length, append_assoc, IsTrue, refl, sym, ap, ◌∙◌, arith}
use Rattle.std.specs.List.{All}
use Rattle.std.specs.Ordering.{match_ordering, nat_cmp, ordering_then}
use Rattle.std.specs.declared.cmp.Ordering.{Ordering}
use Rattle.std.specs.declared.cmp.Ordering.TheVariants.{Less, Equal, Greater}
use Rattle.std.proofs.lemmas.Bool.Decides.{nat_tests}
use Rattle.std.proofs.lemmas.List.Elements.{All-append, All-cons, All-head, All-nil, All-tail, All-weaker}
use Rattle.dv_time.specs.Time.{IsOfRun, rank, time_cmp, time_of}
use Rattle.dv_time.specs.declared.time.Time.{Time}
use Rattle.dv_bag.specs.Bag.{Counts, IsBag, capped, size, union}
use Rattle.dv_bag.specs.Part.{PartOf}
use Rattle.dv_bag.specs.declared.entry.Outer.{Outer}
use Rattle.dv_devs.specs.Cuts.{IsAllAt}
use Rattle.dv_devs.specs.Network.{Network, all_before, emissions_at, line_of, outer_from, trace_before}
use Rattle.dv_devs.specs.Outside.{AllBags, LeavesLinearly, line_cmp, union_of_bags, union_of_lines, union_of_sent, with_line}
use Rattle.dv_devs.specs.Parts.{part_at, part_before, sent_among}
use Rattle.dv_devs.proofs.Cuts.{lines_at, parts_at, ranks_before}
use Rattle.dv_devs.proofs.NextTimes.{rank_at_time, time_of_run}
use Rattle.dv_devs.proofs.Parts.{part_of_all}

-- what the laws of bags say
abbrev pub SizesAdd : Type 0
SizesAdd = (a b : Counts) → size (union a b) ≡ capped (size a + size b)

abbrev pub NoneIsEmpty : Type 0
NoneIsEmpty = (b : Counts) → IsBag b → size b ≡ 0 → b ≡ []

abbrev pub UnionWithNone : Type 0
UnionWithNone = (b : Counts) → IsBag b → union [] b ≡ b

-- a line of an earlier rank, or of this one at an earlier port
abbrev IsEarlier : ℕ → ℕ → ℕ → Outer → Type 0
IsEarlier limit now port o = (k : ℕ) × (o.time ≡ time_of limit k) × ((k < now) ⊎ ((k ≡ now) × (o.port < port)))

abbrev line : ℕ → ℕ → ℕ → Counts → Outer
line limit now port b = record { time = time_of limit now; port = port; values = b }

greater_rank : (limit : ℕ) (a b : Time) → IsOfRun limit a → IsOfRun limit b → rank limit b < rank limit a → time_cmp a b ≡ Greater
greater_rank limit a b h k lt = grind (arith, nat_tests)

ranks_after : (limit k n : ℕ) → k < n → time_cmp (time_of limit n) (time_of limit k) ≡ Greater
ranks_after limit k n lt =
    greater_rank limit (time_of limit n) (time_of limit k) (time_of_run limit n) (time_of_run limit k)
    (omega (arith, rank_at_time limit k, rank_at_time limit n))

same_time : (t : Time) → time_cmp t t ≡ Equal
same_time t = grind (arith, nat_tests)

port_greater : (p q : ℕ) → p < q → nat_cmp q p ≡ Greater
port_greater p q lt = grind (arith, nat_tests)

port_less : (p q : ℕ) → p < q → nat_cmp p q ≡ Less
port_less p q lt = grind (arith, nat_tests)

port_same : (p : ℕ) → nat_cmp p p ≡ Equal
port_same p = grind (arith, nat_tests)

module _ (limit now : ℕ) where
  after_earlier : (port : ℕ) (b : Counts) (o : Outer) → IsEarlier limit now port o → line_cmp (line limit now port b) o ≡ Greater
  after_earlier port b o h = elim h.2 [
    | inl lt ↦ ap (λ (t : Time). ordering_then (time_cmp (time_of limit now) t) (nat_cmp port o.port)) h.1 ∙ ap
        (λ (r : Ordering). ordering_then r (nat_cmp port o.port)) (ranks_after limit h.0 now lt)
    | inr same ↦
        ap (λ (t : Time). ordering_then (time_cmp (time_of limit now) t) (nat_cmp port o.port)) (h.1 ∙ ap (time_of limit) same.0)
        ∙ ap (λ (r : Ordering). ordering_then r (nat_cmp port o.port)) (same_time (time_of limit now))
        ∙ port_greater o.port port same.1
  ]

  earlier_weaker : (port : ℕ) (o : Outer) → IsEarlier limit now port o → IsEarlier limit now (port + 1) o
  earlier_weaker port o h = (h.0, h.1, elim h.2 [ inl lt ↦ inl lt | inr same ↦ inr (same.0, omega (arith, same.1)) ])

  all_weaker : (port : ℕ) (xs : List Outer) → All (IsEarlier limit now port) xs → All (IsEarlier limit now (port + 1)) xs
  all_weaker port xs h = All-weaker (IsEarlier limit now port) (IsEarlier limit now (port + 1)) (earlier_weaker port) xs h

  line_earlier : (port : ℕ) (b : Counts) (none : Bool) → All (IsEarlier limit now (port + 1)) (cond none [] (line limit now port b ∷ []))
  line_earlier port b true = All-nil (IsEarlier limit now (port + 1))
  line_earlier port b false =
      All-cons (IsEarlier limit now (port + 1)) (line limit now port b) [] (now, refl, inr (refl, omega arith))
      (All-nil (IsEarlier limit now (port + 1)))

  -- a line goes past those that are earlier
  line_past : (port : ℕ) (b : Counts) (xs ys : List Outer) → All (IsEarlier limit now port) xs →
      with_line (line limit now port b) (xs ++ ys) ≡ xs ++ with_line (line limit now port b) ys
  line_past port b [] ys h = refl
  line_past port b (x ∷ xs) ys h =
      rw (after_earlier port b x (All-head (IsEarlier limit now port) x xs h))
      (ap (λ (l : List Outer). x ∷ l) (line_past port b xs ys (All-tail (IsEarlier limit now port) x xs h)))

  -- and stands before those of later ports
  line_first : (port q : ℕ) (b : Counts) (bags : List Counts) → port < q →
      with_line (line limit now port b) (outer_from limit now q bags) ≡ line limit now port b ∷ outer_from limit now q bags
  line_first port q b [] lt = refl
  line_first port q b (a ∷ rest) lt = by_test (nat_eq (size a) 0) (line_first port (q + 1) b rest (omega arith))
    where
      less : line_cmp (line limit now port b) (line limit now q a) ≡ Less
      less = ap (λ (r : Ordering). ordering_then r (nat_cmp port q)) (same_time (time_of limit now)) ∙ port_less port q lt

      by_test : (none : Bool) →
          with_line (line limit now port b) (outer_from limit now (q + 1) rest) ≡ line limit now port b ∷ outer_from limit now (q + 1) rest
          → with_line (line limit now port b) (cond none [] (line limit now q a ∷ []) ++ outer_from limit now (q + 1) rest)
          ≡ line limit now port b ∷ (cond none [] (line limit now q a ∷ []) ++ outer_from limit now (q + 1) rest)
      by_test true h = h
      by_test false h = rw less refl

  -- a line joins that of its port
  line_joins : (port : ℕ) (a b : Counts) (rest : List Outer) →
      with_line (line limit now port b) (line limit now port a ∷ rest) ≡ line limit now port (union a b) ∷ rest
  line_joins port a b rest =
      let same : line_cmp (line limit now port b) (line limit now port a) ≡ Equal =
      ap (λ (r : Ordering). ordering_then r (nat_cmp port port)) (same_time (time_of limit now)) ∙ port_same port in
      rw same refl

  module _ (add : SizesAdd) (empty : NoneIsEmpty) (unit : UnionWithNone) where
    -- a line more at a port
    one_port : (port : ℕ) (xs : List Outer) (a b : Counts) (bags : List Counts) (lines : List Outer) → All (IsEarlier limit now port) xs →
        IsBag a → IsBag b → (i j : Bool) → nat_eq (size a) 0 ≡ i → nat_eq (size b) 0 ≡ j
        → union_of_lines (xs ++ (cond i [] (line limit now port a ∷ []) ++ outer_from limit now (port + 1) bags))
        (cond j [] (line limit now port b ∷ []) ++ lines)
        ≡ union_of_lines (xs ++ (line_of limit now port (union a b) ++ outer_from limit now (port + 1) bags)) lines
    one_port port xs a b bags lines early bag_a bag_b i true e f =
        let none : size b ≡ 0 = grind (arith, nat_tests) in
        let gone : b ≡ [] = empty b bag_b none in
        rw (gone, e) refl
    one_port port xs a b bags lines early bag_a bag_b true false e f =
        let none : size a ≡ 0 = grind (arith, nat_tests) in
        let same : union a b ≡ b = ap (λ (c : Counts). union c b) (empty a bag_a none) ∙ unit b bag_b in
        rw (same, f) (ap (λ (l : List Outer). union_of_lines l lines)
        (line_past port b xs (outer_from limit now (port + 1) bags) early ∙ ap (λ (l : List Outer). xs ++ l)
        (line_first port (port + 1) b bags (omega arith))))
    one_port port xs a b bags lines early bag_a bag_b false false e f =
        let some : nat_eq (size (union a b)) 0 ≡ false = ap (λ (n : ℕ). nat_eq n 0) (add a b) ∙ grind (arith, nat_tests) in
        rw some (ap (λ (l : List Outer). union_of_lines l lines)
        (line_past port b xs (line limit now port a ∷ outer_from limit now (port + 1) bags) early ∙ ap (λ (l : List Outer). xs ++ l)
        (line_joins port a b (outer_from limit now (port + 1) bags))))

    -- the lines of an instant, from a port on
    abbrev Unites : ℕ → List Counts → List Counts → List Counts → Type 0
    Unites port bags more both =
        (xs : List Outer) → All (IsEarlier limit now port) xs → union_of_lines (xs ++ outer_from limit now port bags)
        (outer_from limit now port more) ≡ xs ++ outer_from limit now port both

    one_step : (port : ℕ) (a b : Counts) (bags more both : List Counts) → IsBag a → IsBag b → Unites (port + 1) bags more both →
        Unites port (a ∷ bags) (b ∷ more) (union a b ∷ both)
    one_step port a b bags more both bag_a bag_b rest xs early =
        let here = line_of limit now port (union a b) in
        one_port port xs a b bags (outer_from limit now (port + 1) more) early bag_a bag_b (nat_eq (size a) 0) (nat_eq (size b) 0) refl refl
        ∙ ap (λ (l : List Outer). union_of_lines l (outer_from limit now (port + 1) more))
        (sym (append_assoc xs here (outer_from limit now (port + 1) bags)))
        ∙ rest (xs ++ here) (All-append (IsEarlier limit now (port + 1)) xs here (all_weaker port xs early)
        (line_earlier port (union a b) (nat_eq (size (union a b)) 0)))
        ∙ append_assoc xs here (outer_from limit now (port + 1) both)

    pub all_ports : (port : ℕ) (bags more : List Counts) → All IsBag bags → All IsBag more → Unites port bags more (union_of_bags bags more)
    all_ports port [] [] h k xs early = refl
    all_ports port [] (b ∷ more) h k xs early =
        let bag_b = All-head IsBag b more k in
        one_step port [] b [] more more tt bag_b (all_ports (port + 1) [] more h (All-tail IsBag b more k)) xs early
        ∙ ap (λ (c : Counts). xs ++ outer_from limit now port (c ∷ more)) (unit b bag_b)
    all_ports port (a ∷ bags) [] h k xs early = refl
    all_ports port (a ∷ bags) (b ∷ more) h k xs early =
        one_step port a b bags more (union_of_bags bags more) (All-head IsBag a bags h) (All-head IsBag b more k)
        (all_ports (port + 1) bags more (All-tail IsBag a bags h) (All-tail IsBag b more k)) xs early

-- lines of earlier ranks do not touch those of a later one
module _ (limit now : ℕ) where
  abbrev IsNow : Outer → Type 0
  IsNow o = o.time ≡ time_of limit now

  before_now : (o p : Outer) → IsEarlier limit now 0 o → IsNow p → line_cmp o p ≡ Less
  before_now o p h e = elim h.2 [
    | inl lt ↦
        ap (λ (t : Time). ordering_then (time_cmp t p.time) (nat_cmp o.port p.port)) h.1
        ∙ ap (λ (t : Time). ordering_then (time_cmp (time_of limit h.0) t) (nat_cmp o.port p.port)) e
        ∙ ap (λ (r : Ordering). ordering_then r (nat_cmp o.port p.port)) (ranks_before limit h.0 now lt)
    | inr same ↦ absurd (omega (arith, same.1))
  ]

  line_in_front : (o : Outer) (xs ys : List Outer) → IsEarlier limit now 0 o → All IsNow ys → with_line o (xs ++ ys) ≡ with_line o xs ++ ys
  line_in_front o [] [] h k = refl
  line_in_front o [] (y ∷ ys) h k = rw (before_now o y h (All-head IsNow y ys k)) refl
  line_in_front o (x ∷ xs) ys h k = by_order (line_cmp o x) (line_in_front o xs ys h k)
    where
      by_order : (r : Ordering) → with_line o (xs ++ ys) ≡ with_line o xs ++ ys
          → match_ordering r (o ∷ x ∷ (xs ++ ys)) (record { time = x.time; port = x.port; values = union x.values o.values } ∷ (xs ++ ys))
          (x ∷ with_line o (xs ++ ys))
          ≡ match_ordering r (o ∷ x ∷ xs) (record { time = x.time; port = x.port; values = union x.values o.values } ∷ xs)
          (x ∷ with_line o xs) ++ ys
      by_order Less e = refl
      by_order Equal e = refl
      by_order Greater e = ap (λ (l : List Outer). x ∷ l) e

  lines_in_front : (os xs ys : List Outer) → All (IsEarlier limit now 0) os → All IsNow ys →
      union_of_lines (xs ++ ys) os ≡ union_of_lines xs os ++ ys
  lines_in_front [] xs ys h k = refl
  lines_in_front (o ∷ os) xs ys h k =
      ap (λ (l : List Outer). union_of_lines l os) (line_in_front o xs ys (All-head (IsEarlier limit now 0) o os h) k)
      ∙ lines_in_front os (with_line o xs) ys (All-tail (IsEarlier limit now 0) o os h) k

union-append : (os ps qs : List Outer) → union_of_lines os (ps ++ qs) ≡ union_of_lines (union_of_lines os ps) qs
union-append os [] qs = refl
union-append os (p ∷ ps) qs = union-append (with_line p os) ps qs

-- what disjoint sets of components send, and what both send
module _ (who also : ℕ → Bool) (apart : (k : ℕ) → IsTrue (who k) → also k ≡ false) where
  abbrev both : ℕ → Bool
  both k = who k || also k

  bags_alone : (bags : List Counts) → union_of_bags bags [] ≡ bags
  bags_alone [] = refl
  bags_alone (b ∷ bs) = refl

  one_sends : (bags : List Counts) (i j : Bool) → (IsTrue i → j ≡ false) →
      union_of_bags (cond i bags []) (cond j bags []) ≡ cond (i || j) bags []
  one_sends bags true true h = absurd (cc (h refl))
  one_sends bags true false h = bags_alone bags
  one_sends bags false true h = refl
  one_sends bags false false h = refl

  both_send : (ks : List ℕ) (sent : List (List Counts)) →
      union_of_sent (sent_among who ks sent) (sent_among also ks sent) ≡ sent_among both ks sent
  both_send [] sent = refl
  both_send (k ∷ ks) [] = refl
  both_send (k ∷ ks) (bags ∷ rest) =
      ap (λ (bs : List Counts). bs ∷ union_of_sent (sent_among who ks rest) (sent_among also ks rest))
      (one_sends bags (who k) (also k) (apart k))
      ∙ ap (λ (l : List (List Counts)). cond (both k) bags [] ∷ l) (both_send ks rest)

bags_among : (who : ℕ → Bool) (ks : List ℕ) (sent : List (List Counts)) → AllBags sent → AllBags (sent_among who ks sent)
bags_among who [] sent h = All-nil (All IsBag)
bags_among who (k ∷ ks) [] h = All-nil (All IsBag)
bags_among who (k ∷ ks) (bags ∷ rest) h =
    All-cons (All IsBag) (cond (who k) bags []) (sent_among who ks rest) (by_test (who k))
    (bags_among who ks rest (All-tail (All IsBag) bags rest h))
  where
    by_test : (t : Bool) → All IsBag (cond t bags [])
    by_test true = All-head (All IsBag) bags rest h
    by_test false = All-nil IsBag

-- all that is before a rank is earlier
rank_earlier : (limit k n : ℕ) → k < n → (o : Outer) → o.time ≡ time_of limit k → IsEarlier limit n 0 o
rank_earlier limit k n lt o e = (k, e, inl lt)

all_earlier : (limit : ℕ) (parts : ℕ → PartOf) (at : (k : ℕ) → IsAllAt (time_of limit k) (parts k)) (n m : ℕ) → m ≤ n →
    All (IsEarlier limit n 0) (all_before parts m).outer
all_earlier limit parts at n zero le = All-nil (IsEarlier limit n 0)
all_earlier limit parts at n (suc m) le =
    let here = at m in
    All-append (IsEarlier limit n 0) (all_before parts m).outer (parts m).outer (all_earlier limit parts at n m (omega arith))
    (All-weaker (λ (o : Outer). o.time ≡ time_of limit m) (IsEarlier limit n 0) (rank_earlier limit m n (omega arith))
    (parts m).outer here.1)

module _ (add : SizesAdd) (empty : NoneIsEmpty) (unit : UnionWithNone) {I : Type 0} (limit : ℕ) (net : Network I) (inputs : ℕ → I)
    (linear : LeavesLinearly net) where
  module _ (who also : ℕ → Bool) (apart : (k : ℕ) → IsTrue (who k) → also k ≡ false) where
    pub part_united : (n : ℕ) → ((k : ℕ) → k < n → AllBags (emissions_at limit net inputs k)) →
        union_of_lines (part_before who limit net inputs n).outer (part_before also limit net inputs n).outer ≡
        (part_before (both who also apart) limit net inputs n).outer
    part_united zero h = refl
    part_united (suc n) h =
        let sent = emissions_at limit net inputs n in
        let mine = sent_among who net.numbers sent in
        let theirs = sent_among also net.numbers sent in
        let bags = h n (omega arith) in
        let bags_mine = bags_among who net.numbers sent bags in
        let bags_theirs = bags_among also net.numbers sent bags in
        let early = (part_before who limit net inputs n).outer in
        let others = (part_before also limit net inputs n).outer in
        let whole = (part_before (both who also apart) limit net inputs n).outer in
        let now = outer_from limit n 0 (net.leaves mine) in
        let more = outer_from limit n 0 (net.leaves theirs) in
        union-append (early ++ now) others more
        ∙ ap (λ (l : List Outer). union_of_lines l more)
        (lines_in_front limit n others early now
        (all_earlier limit (part_at also limit net inputs) (parts_at limit net inputs also) n n (omega arith))
        (lines_at limit n 0 (net.leaves mine)))
        ∙ ap (λ (l : List Outer). union_of_lines (l ++ now) more) (part_united n (λ k lt. h k (omega arith)))
        ∙ all_ports limit n add empty unit 0 (net.leaves mine) (net.leaves theirs) (linear.bags mine bags_mine)
        (linear.bags theirs bags_theirs) whole
        (all_earlier limit (part_at (both who also apart) limit net inputs) (parts_at limit net inputs (both who also apart)) n n
        (omega arith))
        ∙ ap (λ (bs : List Counts). whole ++ outer_from limit n 0 bs)
        (sym (linear.union mine theirs bags_mine bags_theirs) ∙ ap net.leaves (both_send who also apart net.numbers sent))

  -- a set and all others
  module _ (who : ℕ → Bool) where
    others_apart : (k : ℕ) → IsTrue (who k) → not (who k) ≡ false
    others_apart k h = ap not h

    one_or_other : (t : Bool) → (t || not t) ≡ true
    one_or_other true = refl
    one_or_other false = refl

    everyone : (ks : List ℕ) (sent : List (List Counts)) → sent_among (λ k. who k || not (who k)) ks sent ≡ sent_among (λ k. true) ks sent
    everyone [] sent = refl
    everyone (k ∷ ks) [] = refl
    everyone (k ∷ ks) (bags ∷ rest) = rw (one_or_other (who k)) (ap (λ (l : List (List Counts)). bags ∷ l) (everyone ks rest))

    all_outer : (n : ℕ) →
        (part_before (λ k. who k || not (who k)) limit net inputs n).outer ≡ (part_before (λ k. true) limit net inputs n).outer
    all_outer zero = refl
    all_outer (suc n) =
        ap (λ (l : List Outer). l ++ (part_at (λ k. who k || not (who k)) limit net inputs n).outer) (all_outer n)
        ∙ ap (λ (sent : List (List Counts)). (part_before (λ k. true) limit net inputs n).outer ++ outer_from limit n 0 (net.leaves sent))
        (everyone net.numbers (emissions_at limit net inputs n))

    pub trace_united : length net.numbers ≡ length net.behaviours → (n : ℕ) →
        ((k : ℕ) → k < n → AllBags (emissions_at limit net inputs k)) →
        union_of_lines (part_before who limit net inputs n).outer (part_before (λ k. not (who k)) limit net inputs n).outer ≡
        (trace_before limit net inputs n).outer
    trace_united numbered n h =
        part_united who (λ k. not (who k)) others_apart n h
        ∙ all_outer n
        ∙ ap (λ (p : PartOf). p.outer) (part_of_all limit net inputs numbered n)
