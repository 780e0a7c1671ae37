-- Traces and parts, cut at a time.
use Rattle.std.proofs.Common.{◌≡◌, inl, inr, ℕ, suc, zero, ◌+◌, ◌-◌, ◌<◌, ◌≤◌, Bool, true, false, not, cond, nat_eq, List, []}
use Rattle.std.proofs.Common.{◌∷◌, ◌++◌, map, Option, Some, None, refl, sym, ap, subst, ◌∙◌, arith}
use Rattle.std.specs.List.{All, filter, range_with_len}
use Rattle.std.specs.Ordering.{is_lt}
use Rattle.std.specs.declared.cmp.Ordering.TheVariants.{Less}
use Rattle.std.proofs.lemmas.Bool.Decides.{nat_tests}
use Rattle.std.proofs.lemmas.List.Elements.{All-append, All-cons, All-filter, All-head, All-nil, All-tail, All-weaker, filter-append}
use Rattle.dv_time.specs.Time.{IsOfRun, rank, time_cmp, time_of}
use Rattle.dv_time.specs.declared.time.Time.{Time}
use Rattle.dv_bag.specs.Bag.{Counts, size}
use Rattle.dv_bag.specs.Part.{PartOf, before, nothing, joined, since}
use Rattle.dv_devs.specs.Behaviour.{Component, Reaction}
use Rattle.dv_devs.specs.Cuts.{IsAllAt, IsAllBefore, RiseFrom, all_between}
use Rattle.dv_devs.specs.Network.{Network, all_before, components_at, emissions, emissions_at, entries_by, entry_of, instant}
use Rattle.dv_devs.specs.Network.{line_of, outer_from, part_of_instant, trace_at, trace_before}
use Rattle.dv_devs.specs.Parts.{part_at, part_before, sent_among}
use Rattle.dv_bag.specs.declared.entry.Entry.{Entry}
use Rattle.dv_bag.specs.declared.entry.Outer.{Outer}
use Rattle.dv_bag.specs.declared.entry.What.{What}
use Rattle.dv_devs.proofs.NextTimes.{rank_at_time, time_of_run}
use Rattle.dv_devs.proofs.Parts.{same_part}
use Rattle.dv_devs.proofs.Stretches.{append_nothing, up_to_suc}

-- a filter that keeps all, and one that keeps nothing
pub filter_keeps : {X : Type 0} (test : X → Bool) (xs : List X) → All (λ x. test x ≡ true) xs → filter test xs ≡ xs
filter_keeps test [] h = refl
filter_keeps test (x ∷ xs) h =
    rw (All-head (λ y. test y ≡ true) x xs h) (ap (λ (ys : List _). x ∷ ys) (filter_keeps test xs (All-tail (λ y. test y ≡ true) x xs h)))

pub filter_drops : {X : Type 0} (test : X → Bool) (xs : List X) → All (λ x. test x ≡ false) xs → filter test xs ≡ []
filter_drops test [] h = refl
filter_drops test (x ∷ xs) h = rw (All-head (λ y. test y ≡ false) x xs h) (filter_drops test xs (All-tail (λ y. test y ≡ false) x xs h))

-- times in the order of their ranks
less_rank : (limit : ℕ) (a b : Time) → IsOfRun limit a → IsOfRun limit b → rank limit a < rank limit b → time_cmp a b ≡ Less
less_rank limit a b h k lt = grind (arith, nat_tests)

not_less_rank : (limit : ℕ) (a b : Time) → IsOfRun limit a → IsOfRun limit b → rank limit b ≤ rank limit a → is_lt (time_cmp a b) ≡ false
not_less_rank limit a b h k le = grind (arith, nat_tests)

pub ranks_before : (limit k n : ℕ) → k < n → time_cmp (time_of limit k) (time_of limit n) ≡ Less
ranks_before limit k n lt =
    less_rank limit (time_of limit k) (time_of limit n) (time_of_run limit k) (time_of_run limit n)
    (omega (arith, rank_at_time limit k, rank_at_time limit n))

pub ranks_not_before : (limit k n : ℕ) → n ≤ k → is_lt (time_cmp (time_of limit k) (time_of limit n)) ≡ false
ranks_not_before limit k n le =
    not_less_rank limit (time_of limit k) (time_of limit n) (time_of_run limit k) (time_of_run limit n)
    (omega (arith, rank_at_time limit k, rank_at_time limit n))

-- cuts of parts that are joined
module _ (t : Time) (p q : PartOf) where
  pub before_joined : before t (joined p q) ≡ joined (before t p) (before t q)
  before_joined =
      same_part _ ((before t p).entries ++ (before t q).entries) _ ((before t p).outer ++ (before t q).outer)
      (filter-append (λ (e : Entry). is_lt (time_cmp e.time t)) p.entries q.entries)
      (filter-append (λ (o : Outer). is_lt (time_cmp o.time t)) p.outer q.outer)

  pub since_joined : since t (joined p q) ≡ joined (since t p) (since t q)
  since_joined =
      same_part _ ((since t p).entries ++ (since t q).entries) _ ((since t p).outer ++ (since t q).outer)
      (filter-append (λ (e : Entry). not (is_lt (time_cmp e.time t))) p.entries q.entries)
      (filter-append (λ (o : Outer). not (is_lt (time_cmp o.time t))) p.outer q.outer)

-- a part that is all before a time, or all not before it
abbrev Tests : Bool → Time → PartOf → Type 0
Tests b t p = All (λ (e : Entry). is_lt (time_cmp e.time t) ≡ b) p.entries × All (λ (o : Outer). is_lt (time_cmp o.time t) ≡ b) p.outer

tests_at : (limit k n : ℕ) (b : Bool) (p : PartOf) → is_lt (time_cmp (time_of limit k) (time_of limit n)) ≡ b →
    IsAllAt (time_of limit k) p → Tests b (time_of limit n) p
tests_at limit k n b p e h = (
  All-weaker (λ (x : Entry). x.time ≡ time_of limit k) (λ (x : Entry). is_lt (time_cmp x.time (time_of limit n)) ≡ b)
      (λ x same. ap (λ (t : Time). is_lt (time_cmp t (time_of limit n))) same ∙ e) p.entries h.0,
  All-weaker (λ (x : Outer). x.time ≡ time_of limit k) (λ (x : Outer). is_lt (time_cmp x.time (time_of limit n)) ≡ b)
      (λ x same. ap (λ (t : Time). is_lt (time_cmp t (time_of limit n))) same ∙ e) p.outer h.1,
)

module _ (t : Time) (p : PartOf) where
  before_all : Tests true t p → before t p ≡ p
  before_all h =
      same_part _ p.entries _ p.outer (filter_keeps (λ (e : Entry). is_lt (time_cmp e.time t)) p.entries h.0)
      (filter_keeps (λ (o : Outer). is_lt (time_cmp o.time t)) p.outer h.1)

  before_none : Tests false t p → before t p ≡ nothing
  before_none h =
      same_part _ [] _ [] (filter_drops (λ (e : Entry). is_lt (time_cmp e.time t)) p.entries h.0)
      (filter_drops (λ (o : Outer). is_lt (time_cmp o.time t)) p.outer h.1)

  since_all : Tests false t p → since t p ≡ p
  since_all h = same_part _ p.entries _ p.outer
      (filter_keeps (λ (e : Entry). not (is_lt (time_cmp e.time t))) p.entries
      (All-weaker (λ (e : Entry). is_lt (time_cmp e.time t) ≡ false) (λ (e : Entry). not (is_lt (time_cmp e.time t)) ≡ true)
      (λ e same. ap not same) p.entries h.0))
      (filter_keeps (λ (o : Outer). not (is_lt (time_cmp o.time t))) p.outer
      (All-weaker (λ (o : Outer). is_lt (time_cmp o.time t) ≡ false) (λ (o : Outer). not (is_lt (time_cmp o.time t)) ≡ true)
      (λ o same. ap not same) p.outer h.1))

  since_none : Tests true t p → since t p ≡ nothing
  since_none h = same_part _ [] _ []
      (filter_drops (λ (e : Entry). not (is_lt (time_cmp e.time t))) p.entries
      (All-weaker (λ (e : Entry). is_lt (time_cmp e.time t) ≡ true) (λ (e : Entry). not (is_lt (time_cmp e.time t)) ≡ false)
      (λ e same. ap not same) p.entries h.0))
      (filter_drops (λ (o : Outer). not (is_lt (time_cmp o.time t))) p.outer
      (All-weaker (λ (o : Outer). is_lt (time_cmp o.time t) ≡ true) (λ (o : Outer). not (is_lt (time_cmp o.time t)) ≡ false)
      (λ o same. ap not same) p.outer h.1))

-- parts of which each is at its own time
module _ (limit : ℕ) (parts : ℕ → PartOf) (at : (k : ℕ) → IsAllAt (time_of limit k) (parts k)) where
  all_early : (n m : ℕ) → m ≤ n → before (time_of limit n) (all_before parts m) ≡ all_before parts m
  all_early n zero le = refl
  all_early n (suc m) le =
      before_joined (time_of limit n) (all_before parts m) (parts m)
      ∙ ap (λ (p : PartOf). joined p (before (time_of limit n) (parts m))) (all_early n m (omega arith))
      ∙ ap (joined (all_before parts m))
      (before_all (time_of limit n) (parts m)
      (tests_at limit m n true (parts m) (ap is_lt (ranks_before limit m n (omega arith))) (at m)))

  -- what is before a time in all parts before a later rank
  pub cut_before : (n m : ℕ) → n ≤ m → before (time_of limit n) (all_before parts m) ≡ all_before parts n
  cut_before n zero le = let start : zero ≡ n = omega arith in all_early n zero (omega arith) ∙ ap (all_before parts) start
  cut_before n (suc m) le = elim (up_to_suc n m le) [
    | inl early ↦
        before_joined (time_of limit n) (all_before parts m) (parts m)
        ∙ ap (λ (p : PartOf). joined p (before (time_of limit n) (parts m))) (cut_before n m early)
        ∙ ap (joined (all_before parts n))
        (before_none (time_of limit n) (parts m) (tests_at limit m n false (parts m) (ranks_not_before limit m n early) (at m)))
        ∙ append_nothing (all_before parts n)
    | inr same ↦ all_early n (suc m) (omega arith) ∙ ap (all_before parts) (sym same)
  ]

  none_late : (n m : ℕ) → m ≤ n → since (time_of limit n) (all_before parts m) ≡ nothing
  none_late n zero le = refl
  none_late n (suc m) le =
      since_joined (time_of limit n) (all_before parts m) (parts m)
      ∙ ap (λ (p : PartOf). joined p (since (time_of limit n) (parts m))) (none_late n m (omega arith))
      ∙ ap (joined nothing)
      (since_none (time_of limit n) (parts m)
      (tests_at limit m n true (parts m) (ap is_lt (ranks_before limit m n (omega arith))) (at m)))

  -- what is since a time in all parts before so many ranks later
  since_count : (n count : ℕ) → since (time_of limit n) (all_before parts (n + count)) ≡ all_before (λ k. parts (n + k)) count
  since_count n zero =
      let start : n + zero ≡ n = omega arith in ap (λ (m : ℕ). since (time_of limit n) (all_before parts m)) start
      ∙ none_late n n (omega arith)
  since_count n (suc count) =
      let next : n + suc count ≡ suc (n + count) = omega arith in
      ap (λ (m : ℕ). since (time_of limit n) (all_before parts m)) next
      ∙ since_joined (time_of limit n) (all_before parts (n + count)) (parts (n + count))
      ∙ ap (λ (p : PartOf). joined p (since (time_of limit n) (parts (n + count)))) (since_count n count)
      ∙ ap (joined (all_before (λ k. parts (n + k)) count))
      (since_all (time_of limit n) (parts (n + count))
      (tests_at limit (n + count) n false (parts (n + count)) (ranks_not_before limit (n + count) n (omega arith)) (at (n + count))))

  pub cut_since : (n m : ℕ) → n ≤ m → since (time_of limit n) (all_before parts m) ≡ all_between parts n m
  cut_since n m le =
      let split : m ≡ n + (m - n) = omega arith in ap (λ (x : ℕ). since (time_of limit n) (all_before parts x)) split
      ∙ since_count n (m - n)

  -- all of what is before a rank is before its time
  pub all_are_before : (n m : ℕ) → m ≤ n → IsAllBefore (time_of limit n) (all_before parts m)
  all_are_before n zero le =
      (All-nil (λ (e : Entry). time_cmp e.time (time_of limit n) ≡ Less), All-nil (λ (o : Outer). time_cmp o.time (time_of limit n) ≡ Less))
  all_are_before n (suc m) le =
      let rest = all_are_before n m (omega arith) in
      let here = at m in
      let less = ranks_before limit m n (omega arith) in (
        All-append (λ (e : Entry). time_cmp e.time (time_of limit n) ≡ Less) (all_before parts m).entries (parts m).entries rest.0
            (All-weaker (λ (e : Entry). e.time ≡ time_of limit m) (λ (e : Entry). time_cmp e.time (time_of limit n) ≡ Less)
            (λ e same. ap (λ (t : Time). time_cmp t (time_of limit n)) same ∙ less) (parts m).entries here.0),
        All-append (λ (o : Outer). time_cmp o.time (time_of limit n) ≡ Less) (all_before parts m).outer (parts m).outer rest.1
            (All-weaker (λ (o : Outer). o.time ≡ time_of limit m) (λ (o : Outer). time_cmp o.time (time_of limit n) ≡ Less)
            (λ o same. ap (λ (t : Time). time_cmp t (time_of limit n)) same ∙ less) (parts m).outer here.1),
      )

-- parts before a rank, and those between it and a later one
join_assoc : (p q r : PartOf) → joined (joined p q) r ≡ joined p (joined q r)
join_assoc p q r =
    same_part _ (p.entries ++ (q.entries ++ r.entries)) _ (p.outer ++ (q.outer ++ r.outer)) (append-assoc p.entries q.entries r.entries)
    (append-assoc p.outer q.outer r.outer)
  where
    append-assoc : {X : Type 0} (xs ys zs : List X) → (xs ++ ys) ++ zs ≡ xs ++ (ys ++ zs)
    append-assoc [] ys zs = refl
    append-assoc (x ∷ xs) ys zs = ap (λ (l : List _). x ∷ l) (append-assoc xs ys zs)

join_count : (parts : ℕ → PartOf) (n count : ℕ) →
    joined (all_before parts n) (all_before (λ k. parts (n + k)) count) ≡ all_before parts (n + count)
join_count parts n zero = let start : n ≡ n + zero = omega arith in append_nothing (all_before parts n) ∙ ap (all_before parts) start
join_count parts n (suc count) =
    let next : n + suc count ≡ suc (n + count) = omega arith in
    sym (join_assoc (all_before parts n) (all_before (λ k. parts (n + k)) count) (parts (n + count)))
    ∙ ap (λ (p : PartOf). joined p (parts (n + count))) (join_count parts n count)
    ∙ ap (all_before parts) (sym next)

pub join_between : (parts : ℕ → PartOf) (n m : ℕ) → n ≤ m → joined (all_before parts n) (all_between parts n m) ≡ all_before parts m
join_between parts n m le = let split : n + (m - n) ≡ m = omega arith in join_count parts n (m - n) ∙ ap (all_before parts) split

-- numbers that are counted rise
pub counted_rise : (low count : ℕ) → RiseFrom low (range_with_len low count)
counted_rise low zero = tt
counted_rise low (suc count) =
    let next : low + 1 ≡ suc low = omega arith in
    (omega arith, subst (λ (k : ℕ). RiseFrom (suc low) (range_with_len k count)) (sym next) (counted_rise (suc low) count))

-- an instant is at its time
module _ (limit now : ℕ) where
  entry_at : (k : ℕ) (event : Option (What × List Counts)) → All (λ (e : Entry). e.time ≡ time_of limit now) (entry_of limit now k event)
  entry_at k None = All-nil (λ (e : Entry). e.time ≡ time_of limit now)
  entry_at k (Some event) =
      All-cons (λ (e : Entry). e.time ≡ time_of limit now) _ [] refl (All-nil (λ (e : Entry). e.time ≡ time_of limit now))

  entries_at : (ks : List ℕ) (rs : List Reaction) → All (λ (e : Entry). e.time ≡ time_of limit now) (entries_by limit now ks rs)
  entries_at [] rs = All-nil (λ (e : Entry). e.time ≡ time_of limit now)
  entries_at (k ∷ ks) [] = All-nil (λ (e : Entry). e.time ≡ time_of limit now)
  entries_at (k ∷ ks) (r ∷ rs) =
      All-append (λ (e : Entry). e.time ≡ time_of limit now) (entry_of limit now k r.event) (entries_by limit now ks rs)
      (entry_at k r.event) (entries_at ks rs)

  line_at : (port : ℕ) (b : Counts) (none : Bool) →
      All (λ (o : Outer). o.time ≡ time_of limit now) (cond none [] (record { time = time_of limit now; port = port; values = b } ∷ []))
  line_at port b true = All-nil (λ (o : Outer). o.time ≡ time_of limit now)
  line_at port b false =
      All-cons (λ (o : Outer). o.time ≡ time_of limit now) _ [] refl (All-nil (λ (o : Outer). o.time ≡ time_of limit now))

  pub lines_at : (port : ℕ) (bags : List Counts) → All (λ (o : Outer). o.time ≡ time_of limit now) (outer_from limit now port bags)
  lines_at port [] = All-nil (λ (o : Outer). o.time ≡ time_of limit now)
  lines_at port (b ∷ bs) =
      All-append (λ (o : Outer). o.time ≡ time_of limit now) (line_of limit now port b) (outer_from limit now (port + 1) bs)
      (line_at port b (nat_eq (size b) 0)) (lines_at (port + 1) bs)

  rise_weaker : (low high : ℕ) (ks : List ℕ) → low ≤ high → RiseFrom high ks → RiseFrom low ks
  rise_weaker low high [] le h = tt
  rise_weaker low high (k ∷ ks) le h = (omega (arith, h.0), h.1)

  abbrev pub ports_of : List Outer → List ℕ
  ports_of os = map (λ (o : Outer). o.port) os

  pub ports_rise : (port : ℕ) (bags : List Counts) → RiseFrom port (ports_of (outer_from limit now port bags))
  ports_rise port [] = tt
  ports_rise port (b ∷ bs) = by_test (nat_eq (size b) 0) (ports_rise (port + 1) bs)
    where
      by_test : (none : Bool) → RiseFrom (port + 1) (ports_of (outer_from limit now (port + 1) bs)) →
          RiseFrom port (ports_of
          (cond none [] (record { time = time_of limit now; port = port; values = b } ∷ []) ++ outer_from limit now (port + 1) bs))
      by_test true rest = rise_weaker port (port + 1) (ports_of (outer_from limit now (port + 1) bs)) (omega arith) rest
      by_test false rest =
          (omega arith, rise_weaker (suc port) (port + 1) (ports_of (outer_from limit now (port + 1) bs)) (omega arith) rest)

  abbrev pub components_of : List Entry → List ℕ
  components_of es = map (λ (e : Entry). e.component) es

  pub numbers_rise : (low : ℕ) (ks : List ℕ) (rs : List Reaction) → RiseFrom low ks →
      RiseFrom low (components_of (entries_by limit now ks rs))
  numbers_rise low [] rs h = tt
  numbers_rise low (k ∷ ks) [] h = tt
  numbers_rise low (k ∷ ks) (r ∷ rs) h = by_event r.event (numbers_rise (suc k) ks rs h.1)
    where
      by_event : (event : Option (What × List Counts)) → RiseFrom (suc k) (components_of (entries_by limit now ks rs)) →
          RiseFrom low (components_of (entry_of limit now k event ++ entries_by limit now ks rs))
      by_event None rest = rise_weaker low (suc k) (components_of (entries_by limit now ks rs)) (omega (arith, h.0)) rest
      by_event (Some event) rest = (h.0, rest)

module _ {I : Type 0} (limit : ℕ) (net : Network I) where
  pub instant_at : (now : ℕ) (input : I) (cs : List Component) → IsAllAt (time_of limit now) (part_of_instant limit net now input cs)
  instant_at now input cs = (
    entries_at limit now net.numbers (instant limit net now input cs),
    lines_at limit now 0
        (net.leaves (emissions net.behaviours now cs)),
  )

  module _ (inputs : ℕ → I) where
    pub traces_at : (n : ℕ) → IsAllAt (time_of limit n) (trace_at limit net inputs n)
    traces_at n = instant_at n (inputs n) (components_at limit net inputs n)

    pub parts_at : (who : ℕ → Bool) (n : ℕ) → IsAllAt (time_of limit n) (part_at who limit net inputs n)
    parts_at who n =
        let whole =
        traces_at n in (
          All-filter (λ (e : Entry). who e.component) (λ (e : Entry). e.time ≡ time_of limit n)
              (trace_at limit net inputs n).entries whole.0,
          lines_at limit n 0
              (net.leaves (sent_among who net.numbers (emissions_at limit net inputs n))),
        )

    pub trace_cut : (n m : ℕ) → n ≤ m → before (time_of limit n) (trace_before limit net inputs m) ≡ trace_before limit net inputs n
    trace_cut = cut_before limit (trace_at limit net inputs) traces_at

    pub trace_since : (n m : ℕ) → n ≤ m →
        since (time_of limit n) (trace_before limit net inputs m) ≡ all_between (trace_at limit net inputs) n m
    trace_since = cut_since limit (trace_at limit net inputs) traces_at

    pub trace_is_before : (n : ℕ) → IsAllBefore (time_of limit n) (trace_before limit net inputs n)
    trace_is_before n = all_are_before limit (trace_at limit net inputs) traces_at n n (omega arith)

    pub part_cut : (who : ℕ → Bool) (n m : ℕ) → n ≤ m →
        before (time_of limit n) (part_before who limit net inputs m) ≡ part_before who limit net inputs n
    part_cut who = cut_before limit (part_at who limit net inputs) (parts_at who)

    pub part_since : (who : ℕ → Bool) (n m : ℕ) → n ≤ m →
        since (time_of limit n) (part_before who limit net inputs m) ≡ all_between (part_at who limit net inputs) n m
    part_since who = cut_since limit (part_at who limit net inputs) (parts_at who)

    pub part_is_before : (who : ℕ → Bool) (n : ℕ) → IsAllBefore (time_of limit n) (part_before who limit net inputs n)
    part_is_before who n = all_are_before limit (part_at who limit net inputs) (parts_at who) n n (omega arith)
