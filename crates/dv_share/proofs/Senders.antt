-- Links in order of their senders carry what the senders' rows carry, one after the other.
use Rattle.std.proofs.Common.{◌≡◌, inl, inr, ℕ, zero, suc, ◌+◌, ◌<◌, ◌≤◌, true, false, nat_eq, List, [], ◌∷◌, ◌++◌, length}
use Rattle.std.proofs.Common.{get_or, map, replicate, Option, Some, None, Result, Ok, refl, sym, ap, ◌∙◌, subst, arith}
use Rattle.std.specs.List.{All, filter, slice_get}
use Rattle.std.proofs.lemmas.Bool.{cases_lt, eq-eqb, eqb-true}
use Rattle.std.proofs.lemmas.List.{append_assoc, get_or-replicate, get_or_past, length-replicate}
use Rattle.std.proofs.lemmas.Option.{slice_get-get_or, slice_get_within}
use Rattle.std.specs.Option.{unwrap_or}
use Rattle.dv_bag.specs.Bag.{Counts, bag_at}
use Rattle.dv_bag.specs.declared.fault.Fault.{Fault}
use Rattle.dv_react.specs.Outcomes.{sent_of}
use Rattle.dv_conservative.specs.Links.{Link, Delivery, carried, carried_by, sent_of as sent_from}
use Rattle.dv_conservative.proofs.Cut.{carried_same}
use Rattle.dv_share.specs.Links.{leads_from}
use Rattle.dv_share.specs.Indices.{AreRising, RiseFrom, found, is_in, indices_of}
use Rattle.dv_share.specs.Rows.{number_of, rows}
use Rattle.dv_share.specs.Share.{StandByIndex, given_at, numbers_of, sent_in, sents_by}
use Rattle.dv_share.specs.declared.index.Indexed.{Indexed}
use Rattle.dv_share.specs.declared.tables.Member.{Member}
use Rattle.dv_share.proofs.Rising.{Rise as RiseBy}
use Rattle.dv_share.proofs.Indices.{all_first, all_rest, there, differ, found_absent, found_at, itself, not_below, turned, yes_or_no}

false_true : false ≡ true → ⊥
false_true h = cc

-- senders never fall, from one on
abbrev pub Rise : ℕ → List Link → Type 0
Rise low ls = RiseBy (λ (l : Link). l.from) low ls

pub carried_none : (ls : List Link) (S : ℕ → List Counts) → ((k : ℕ) → S k ≡ []) → carried ls S ≡ []
carried_none [] S h = refl
carried_none (l ∷ ls) S h = rw (h l.from) (carried_none ls S h)

-- empty bags are carried nowhere
pub carried_empty : (ls : List Link) (n : ℕ) → carried ls (λ k. replicate n []) ≡ []
carried_empty [] n = refl
carried_empty (l ∷ ls) n =
    ap (λ (b : Counts). carried_by l b ++ carried ls (λ k. replicate n [])) (empty_at l.from_port) ∙ carried_empty ls n
  where
    empty_at : (port : ℕ) → bag_at (replicate n []) port ≡ []
    empty_at port = elim (cases_lt port n) [
      | inl lt ↦ get_or-replicate n port [] [] lt
      | inr ge ↦ get_or_past (replicate n []) port [] (omega (arith, ge, length-replicate {A = Counts} n []))
    ]

module _ (S : ℕ → List Counts) where
  abbrev pub groups : List ℕ → List Link → List Delivery
  groups [] links = []
  groups (k ∷ ks) links = carried (filter (leads_from k) links) S ++ groups ks links

  groups_none : (ks : List ℕ) → groups ks [] ≡ []
  groups_none [] = refl
  groups_none (k ∷ ks) = groups_none ks

  quiet : (l : Link) → S l.from ≡ [] → carried_by l (bag_at (S l.from) l.from_port) ≡ []
  quiet l e = rw e refl

  skip : (ks : List ℕ) (l : Link) (ls : List Link) → is_in l.from ks ≡ false → groups ks (l ∷ ls) ≡ groups ks ls
  skip [] l ls h = refl
  skip (k ∷ ks) l ls h = elim (yes_or_no (nat_eq k l.from)) [
    | inl e ↦ absurd (false_true (sym (rw e at h)))
    | inr e ↦ rw (turned k l.from false e) (ap (λ (ds : List Delivery). carried (filter (leads_from k) ls) S ++ ds)
        (skip ks l ls (rw e at h)))
  ]

  none_lead : (k low : ℕ) (ls : List Link) → Rise low ls → k < low → filter (leads_from k) ls ≡ []
  none_lead k low [] h lt = refl
  none_lead k low (l ∷ ls) h lt =
      let apart : nat_eq l.from k ≡ false = differ l.from k (λ e. absurd (omega (arith, h.0))) in
      rw apart (none_lead k l.from ls h.1 (omega (arith, h.0)))

  walk : (low k : ℕ) (ks : List ℕ) → RiseFrom (suc k) ks → ((ls : List Link) → Rise (suc k) ls → carried ls S ≡ groups ks ls)
      → ((j : ℕ) → low ≤ j → j < k → S j ≡ []) → (from : ℕ) (ls : List Link) → low ≤ from → Rise from ls → carried ls S ≡ groups (k ∷ ks) ls
  walk low k ks up rest none from [] le h = sym (groups_none (k ∷ ks))
  walk low k ks up rest none from (l ∷ ls) le h = elim (cases_lt l.from k) [
    | inl lt ↦
        let out : is_in l.from (k ∷ ks) ≡ false = not_below k l.from (k ∷ ks) (omega arith, up) lt in
        ap (λ (ds : List Delivery). ds ++ carried ls S) (quiet l (none l.from (omega (arith, h.0)) lt))
        ∙ walk low k ks up rest none l.from ls (omega (arith, h.0)) h.1
        ∙ sym (skip (k ∷ ks) l ls out)
    | inr ge ↦ elim (cases_lt k l.from) [
      | inl lt ↦
          let all : Rise (suc k) (l ∷ ls) = (omega (arith, lt), h.1) in
          rest (l ∷ ls) all ∙ sym (ap (λ (ms : List Link). carried ms S ++ groups ks (l ∷ ls))
          (none_lead k (suc k) (l ∷ ls) all (omega arith)))
      | inr le-k ↦
          let here : l.from ≡ k = omega (arith, ge, le-k) in
          let out : is_in l.from ks ≡ false = not_below (suc k) l.from ks up (omega (arith, here)) in
          let test : nat_eq l.from k ≡ true = eq-eqb l.from k here in
          ap (λ (ds : List Delivery). carried_by l (bag_at (S l.from) l.from_port) ++ ds)
          (walk low k ks up rest none l.from ls (omega (arith, h.0)) h.1)
          ∙ sym (append_assoc (carried_by l (bag_at (S l.from) l.from_port)) (carried (filter (leads_from k) ls) S) (groups ks ls))
          ∙ sym (rw test (ap (λ (ds : List Delivery). (carried_by l (bag_at (S l.from) l.from_port) ++ carried (filter (leads_from k) ls)
          S) ++ ds) (skip ks l ls out)))
    ]
  ]

  none_carry : (low : ℕ) (ls : List Link) → Rise low ls → ((j : ℕ) → low ≤ j → S j ≡ []) → carried ls S ≡ []
  none_carry low [] h none = refl
  none_carry low (l ∷ ls) h none =
      ap (λ (ds : List Delivery). ds ++ carried ls S) (quiet l (none l.from h.0))
      ∙ none_carry l.from ls h.1 (λ j le. none j (omega (arith, h.0)))

  pub grouped : (ks : List ℕ) (low : ℕ) (ls : List Link) → RiseFrom low ks → Rise low ls
      → ((j : ℕ) → low ≤ j → is_in j ks ≡ false → S j ≡ [])
      → carried ls S ≡ groups ks ls
  grouped [] low ls up h none = none_carry low ls h (λ j le. none j le refl)
  grouped (k ∷ ks) low ls up h none =
      walk low k ks up.1
      (λ ms rise.
      grouped ks (suc k) ms up.1 rise
      (λ j le out.
      let apart : nat_eq k j ≡ false = differ k j (λ e. absurd (omega arith)) in
      none j (omega (arith, up.0)) (rw apart out)))
      (λ j le lt. none j le (not_below k j (k ∷ ks) (omega arith, up.1) lt))
      low ls (omega arith) h

-- the number at an index
abbrev pub number_at : List Member → ℕ → ℕ
number_at ms p = number_of (slice_get ms p)

number_from : (low : ℕ) (ms : List Member) (q : ℕ) → RiseFrom low (numbers_of ms) → q < length ms → low ≤ number_at ms q
number_from low [] q h lt = absurd (omega arith)
number_from low (m ∷ ms) zero h lt = h.0
number_from low (m ∷ ms) (suc q) h lt = let rest = number_from (suc m.number) ms q h.1 (omega arith) in omega (arith, h.0, rest)

pub numbers_rise : (low : ℕ) (ms : List Member) (p q : ℕ) → RiseFrom low (numbers_of ms) → p < q → q < length ms
    → number_at ms p < number_at ms q
numbers_rise low [] p q h lt within = absurd (omega arith)
numbers_rise low (m ∷ ms) p zero h lt within = absurd (omega arith)
numbers_rise low (m ∷ ms) zero (suc q) h lt within = let rest = number_from (suc m.number) ms q h.1 (omega arith) in omega (arith, rest)
numbers_rise low (m ∷ ms) (suc p) (suc q) h lt within = numbers_rise (suc m.number) ms p q h.1 (omega arith) (omega arith)

module _ (es : List (Indexed (Result (List Counts) Fault))) where
  -- what the component of a number sends, by its index
  pub sent_at_index : (low p q : ℕ) (ms : List Member) (m : Member) → RiseFrom low (numbers_of ms) → slice_get ms p ≡ Some m →
      sent_from (numbers_of ms) (sents_by q ms es) m.number ≡ sent_of (given_at (q + p) es)
  sent_at_index low p q [] m h e = absurd (cc)
  sent_at_index low zero q (n ∷ ms) m h e =
      let same : n ≡ m = cc in
      let start : q ≡ q + 0 = omega arith in
      rw same (rw (itself m.number) (ap (λ (i : ℕ). sent_of (given_at i es)) start))
  sent_at_index low (suc p) q (n ∷ ms) m h e =
      let within : p < length ms = slice_get_within ms p m e in
      let above = number_from (suc n.number) ms p h.1 within in
      let is : number_at ms p ≡ m.number = ap number_of e in
      let apart : nat_eq n.number m.number ≡ false = differ n.number m.number (λ d. absurd (omega (arith, above, is, d))) in
      let next : suc q + p ≡ q + suc p = omega arith in
      rw apart (sent_at_index (suc n.number) p (suc q) ms m h.1 e ∙ ap (λ (i : ℕ). sent_of (given_at i es)) next)

  pub nothing_sent : (j q : ℕ) (ms : List Member)
      → ((p : ℕ) (m : Member) → slice_get ms p ≡ Some m → m.number ≡ j → sent_of (given_at (q + p) es) ≡ []) →
      sent_from (numbers_of ms) (sents_by q ms es) j ≡ []
  nothing_sent j q [] h = refl
  nothing_sent j q (n ∷ ms) h = elim (yes_or_no (nat_eq n.number j)) [
    | inl e ↦
        let start : q + 0 ≡ q = omega arith in
        rw e (subst (λ (i : ℕ). sent_of (given_at i es) ≡ []) start (h 0 n refl (eqb-true n.number j e)))
    | inr e ↦
        rw e
        (nothing_sent j (suc q) ms
        (λ p m at d. let next : q + suc p ≡ suc q + p = omega arith in subst (λ (i : ℕ). sent_of (given_at i es) ≡ []) next
        (h (suc p) m at d)))
  ]

abbrev pub keys : List Member → List (Indexed (Result (List Counts) Fault)) → List ℕ
keys ms es = map (λ (e : Indexed (Result (List Counts) Fault)). number_at ms e.index) es

keys_rise : (low lowest : ℕ) (ms : List Member) (es : List (Indexed (Result (List Counts) Fault))) → AreRising (numbers_of ms)
    → RiseFrom low (indices_of es) →
    All (λ (e : Indexed (Result (List Counts) Fault)). e.index < length ms) es
    → ((p : ℕ) → low ≤ p → p < length ms → lowest ≤ number_at ms p) → RiseFrom lowest (keys ms es)
keys_rise low lowest ms [] up h within least = tt
keys_rise low lowest ms (e ∷ es) up h within least = (
  least e.index h.0 (all_first (λ (e : Indexed (Result (List Counts) Fault)). e.index < length ms) e es within),
  keys_rise (suc e.index) (suc (number_at ms e.index)) ms es up h.1
      (all_rest (λ (e : Indexed (Result (List Counts) Fault)). e.index < length ms) e es within)
      (λ p le lt. numbers_rise 0 ms e.index p up (omega arith) lt),
)

-- the number of an index that is there is among the keys
key_in : (p : ℕ) (m : Member) (ms : List Member) (es : List (Indexed (Result (List Counts) Fault))) → slice_get ms p ≡ Some m
    → is_in m.number (keys ms es) ≡ false →
    is_in p (indices_of es) ≡ false
key_in p m ms [] at h = refl
key_in p m ms (e ∷ es) at h = elim (yes_or_no (nat_eq (number_at ms e.index) m.number)) [
  | inl k ↦ absurd (false_true (sym (rw k at h)))
  | inr k ↦ elim (yes_or_no (nat_eq e.index p)) [
    | inl t ↦
        let same : number_at ms e.index ≡ m.number = ap (number_at ms) (eqb-true e.index p t) ∙ ap number_of at in
        absurd (false_true (sym k ∙ eq-eqb (number_at ms e.index) m.number same))
    | inr t ↦ rw t (key_in p m ms es at (rw k at h))
  ]
]

module _ (ms : List Member) (links : List Link) where
  rows_are_groups : (S : ℕ → List Counts) (es : List (Indexed (Result (List Counts) Fault))) →
      All (λ (e : Indexed (Result (List Counts) Fault)). S (number_at ms e.index) ≡ sent_of e.what) es
      → rows ms links es ≡ groups S (keys ms es) links
  rows_are_groups S [] h = refl
  rows_are_groups S (e ∷ es) h =
      let this = all_first (λ (e : Indexed (Result (List Counts) Fault)). S (number_at ms e.index) ≡ sent_of e.what) e es h in
      ap (λ (ds : List Delivery). ds ++ rows ms links es)
      (sym
      (carried_same (leads_from (number_at ms e.index)) S (λ k. sent_of e.what) links
      (λ l from. ap S (eqb-true l.from (number_at ms e.index) from) ∙ this)))
      ∙ ap (λ (ds : List Delivery). carried (filter (leads_from (number_at ms e.index)) links) S ++ ds)
      (rows_are_groups S es (all_rest (λ (e : Indexed (Result (List Counts) Fault)). S (number_at ms e.index) ≡ sent_of e.what) e es h))

-- what links carry of what was emitted, sender by sender
pub rows_are_carried : (ms : List Member) (links : List Link) (es : List (Indexed (Result (List Counts) Fault)))
    → AreRising (numbers_of ms) → Rise 0 links →
    StandByIndex (length ms) es → rows ms links es ≡ carried links (sent_in ms es)
rows_are_carried ms links es up h indices =
    let S : ℕ → List Counts = sent_in ms es in
    rows_are_groups ms links S es
    (λ i d lt.
    let e = get_or es i d in
    let at : slice_get es i ≡ Some e = slice_get-get_or es i d lt in
    let at-member = there ms e.index (indices.within i d lt) in
    ap (λ (o : Option Member). S (number_of o)) at-member.1 ∙ sent_at_index es 0 e.index 0 ms at-member.0 up at-member.1 ∙ by_given i e at)
    ∙ sym
    (grouped S (keys ms es) 0 links (keys_rise 0 0 ms es up indices.rise indices.within (λ p le lt. omega arith)) h
    (λ j le out.
    nothing_sent es j 0 ms
    (λ p m is same.
    let gone : found (0 + p) es ≡ None = found_absent (0 + p) es (subst (λ (q : ℕ). is_in q (indices_of es) ≡ false) (omega arith)
    (key_in p m ms es is (subst (λ (k : ℕ). is_in k (keys ms es) ≡ false) (sym same) out))) in
    ap (λ (o : Option (Result (List Counts) Fault)). sent_of (unwrap_or o (Ok []))) gone)))
  where
    by_given : (i : ℕ) (e : Indexed (Result (List Counts) Fault)) → slice_get es i ≡ Some e → sent_of (given_at (0 + e.index) es)
        ≡ sent_of e.what
    by_given i e at =
        let start : 0 + e.index ≡ e.index = omega arith in
        ap (λ (p : ℕ). sent_of (given_at p es)) start
        ∙ ap (λ (o : Option (Result (List Counts) Fault)). sent_of (unwrap_or o (Ok []))) (found_at 0 i e es indices.rise at)

-- without links nothing is carried
pub rows_none : (ms : List Member) (es : List (Indexed (Result (List Counts) Fault))) → rows ms [] es ≡ []
rows_none ms [] = refl
rows_none ms (e ∷ es) = rows_none ms es
