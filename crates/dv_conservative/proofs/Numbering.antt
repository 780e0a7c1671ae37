-- The links between processes are apart, and there are all that are needed.
use Rattle.std.proofs.Common.{◌≡◌, inl, inr, ℕ, zero, suc, ◌+◌, ◌<◌, ◌≤◌, Bool, true, false, not, ◌&&◌, ◌||◌, cond, nat_eq}
use Rattle.std.proofs.Common.{List, [], ◌∷◌, ◌++◌, append_assoc, Some, refl, sym, ap, ◌∙◌, subst, arith}
use Rattle.std.specs.List.{list_any, slice_get}
use Rattle.std.proofs.lemmas.Bool.{cases_lt}
use Rattle.std.proofs.lemmas.Bool.Decides.{nat_tests}
use Rattle.dv_conservative.specs.Channels.{all_channels, channels_from, channels_of, crosses, leads_between}
use Rattle.dv_conservative.specs.Links.{Link}
use Rattle.dv_conservative.specs.Rounds.{AllHaveSources}
use Rattle.dv_conservative.specs.Sound.{AllHeard, AreApart, is_heard}
use Rattle.dv_conservative.specs.World.{Channel, Job, owned}
use Rattle.dv_conservative.proofs.Local.{same_number}

module _ (job : Job) (q : ℕ) where
  abbrev hears : List Channel → ℕ → Bool
  hears chs k = is_heard job q chs k

  links : List Link
  links = job.flat.links

  heard_append : (xs ys : List Channel) (k : ℕ) → hears (xs ++ ys) k ≡ (hears xs k || hears ys k)
  heard_append [] ys k = refl
  heard_append (c ∷ cs) ys k = by_test (nat_eq c.target q && owned job c.source k) (heard_append cs ys k)
    where
      by_test : (t : Bool) → is_heard job q (cs ++ ys) k ≡ (is_heard job q cs k || is_heard job q ys k) →
          (t || is_heard job q (cs ++ ys) k) ≡ ((t || is_heard job q cs k) || is_heard job q ys k)
      by_test true rest = refl
      by_test false rest = rest

  neither : (xs ys : List Channel) (k : ℕ) → hears xs k ≡ false → hears ys k ≡ false → hears (xs ++ ys) k ≡ false
  neither xs ys k h j = heard_append xs ys k ∙ rw (h, j) refl

  -- the links of one process
  module _ (p : ℕ) where
    abbrev row : ℕ → ℕ → List Channel
    row r n = channels_of job.owner job.flat.links p r n

    first_or_rest : (r n k : ℕ) → (crosses job.owner job.flat.links p r ≡ true → (nat_eq r q && owned job p k) ≡ false) →
        hears (row (suc r) n) k ≡ false →
        hears (row r (suc n)) k ≡ false
    first_or_rest r n k first rest = by_test (crosses job.owner job.flat.links p r) refl
      where
        by_test : (t : Bool) → crosses job.owner job.flat.links p r ≡ t →
            is_heard job q (cond t (record { source = p; target = r } ∷ channels_of job.owner job.flat.links p (suc r) n)
            (channels_of job.owner job.flat.links p (suc r) n)) k ≡ false
        by_test true e = rw (first e) rest
        by_test false e = rest

    of_others : (r n k : ℕ) → owned job p k ≡ false → hears (row r n) k ≡ false
    of_others r zero k h = refl
    of_others r (suc n) k h = first_or_rest r n k (λ e. rw h (no (nat_eq r q))) (of_others (suc r) n k h)
      where
        no : (t : Bool) → (t && false) ≡ false
        no true = refl
        no false = refl

    past : (r n k : ℕ) → q < r → hears (row r n) k ≡ false
    past r zero k h = refl
    past r (suc n) k h =
        let differs : nat_eq r q ≡ false = grind (arith, nat_tests) in
        first_or_rest r n k (λ e. rw differs refl) (past (suc r) n k (omega arith))

    uncrossed : (r n k : ℕ) → crosses job.owner job.flat.links p q ≡ false → hears (row r n) k ≡ false
    uncrossed r zero k h = refl
    uncrossed r (suc n) k h = first_or_rest r n k (λ e. by_number (nat_eq r q) refl e) (uncrossed (suc r) n k h)
      where
        by_number : (t : Bool) → nat_eq r q ≡ t → crosses job.owner job.flat.links p r ≡ true → (t && owned job p k) ≡ false
        by_number true same e =
            let number : r ≡ q = same_number r q same in
            let both : true ≡ false = sym e ∙ ap (crosses job.owner job.flat.links p) number ∙ h in
            absurd (cc)
        by_number false same e = refl

    crossed : (r n k : ℕ) → owned job p k ≡ true → crosses job.owner job.flat.links p q ≡ true → r ≤ q → q < r + n →
        hears (row r n) k ≡ true
    crossed r zero k own h le lt = absurd (omega arith)
    crossed r (suc n) k own h le lt = elim (cases_lt r q) [
      | inl less ↦ by_first (crossed (suc r) n k own h (omega arith) (omega arith)) (crosses job.owner job.flat.links p r)
      | inr same ↦
          let number : q ≡ r = omega arith in
          let here : crosses job.owner job.flat.links p r ≡ true = ap (crosses job.owner job.flat.links p) (sym number) ∙ h in
          let itself : nat_eq r q ≡ true = grind (arith, nat_tests) in
          rw (here, itself, own) refl
    ]
      where
        by_first : hears (row (suc r) n) k ≡ true → (t : Bool) →
            is_heard job q (cond t (record { source = p; target = r } ∷ channels_of job.owner job.flat.links p (suc r) n)
            (channels_of job.owner job.flat.links p (suc r) n)) k ≡ true
        by_first rest true = or_right (nat_eq r q && owned job p k)
            (is_heard job q (channels_of job.owner job.flat.links p (suc r) n) k) rest
          where
            or_right : (a b : Bool) → b ≡ true → (a || b) ≡ true
            or_right true b h = refl
            or_right false b h = h
        by_first rest false = rest

    apart_row : (r n : ℕ) (rest : List Channel) → ((k : ℕ) → owned job p k ≡ true → hears rest k ≡ false) → AreApart job q rest →
        AreApart job q (row r n ++ rest)
    apart_row r zero rest none apart = apart
    apart_row r (suc n) rest none apart = by_test (apart_row (suc r) n rest none apart) (crosses job.owner job.flat.links p r)
      where
        by_test : AreApart job q (channels_of job.owner job.flat.links p (suc r) n ++ rest) → (t : Bool) →
            AreApart job q (cond t (record { source = p; target = r } ∷ channels_of job.owner job.flat.links p (suc r) n)
            (channels_of job.owner job.flat.links p (suc r) n) ++ rest)
        by_test later true = (
          (λ here k own. neither (channels_of job.owner job.flat.links p (suc r) n) rest k
              (past (suc r) n k (let number : r ≡ q = same_number r q here in omega arith)) (none k own)),
          later,
        )
        by_test later false = later

  -- the links of all processes
  abbrev rows : ℕ → ℕ → ℕ → List Channel
  rows count p n = channels_from job.owner job.flat.links count p n

  not_owned : (p k : ℕ) → (job.owner k ≡ p → ⊥) → owned job p k ≡ false
  not_owned p k differs = by_test (owned job p k) refl
    where
      by_test : (t : Bool) → owned job p k ≡ t → t ≡ false
      by_test true e = absurd (differs (same_number (job.owner k) p e))
      by_test false e = refl

  earlier_owner : (count p n k : ℕ) → job.owner k < p → hears (rows count p n) k ≡ false
  earlier_owner count p zero k lt = refl
  earlier_owner count p (suc n) k lt =
      neither (channels_of job.owner job.flat.links p 0 count) (rows count (suc p) n) k
      (of_others p 0 count k (not_owned p k (λ e. absurd (omega arith)))) (earlier_owner count (suc p) n k (omega arith))

  never_crossed : (count p n k : ℕ) → crosses job.owner job.flat.links (job.owner k) q ≡ false → hears (rows count p n) k ≡ false
  never_crossed count p zero k h = refl
  never_crossed count p (suc n) k h =
      neither (channels_of job.owner job.flat.links p 0 count) (rows count (suc p) n) k (by_owner (owned job p k) refl)
      (never_crossed count (suc p) n k h)
    where
      by_owner : (t : Bool) → owned job p k ≡ t → hears (channels_of job.owner job.flat.links p 0 count) k ≡ false
      by_owner true e =
          let same : job.owner k ≡ p = same_number (job.owner k) p e in
          uncrossed p 0 count k (ap (λ (x : ℕ). crosses job.owner job.flat.links x q) (sym same) ∙ h)
      by_owner false e = of_others p 0 count k e

  once_crossed : (count p n k : ℕ) → crosses job.owner job.flat.links (job.owner k) q ≡ true → q < count → p ≤ job.owner k →
      job.owner k < p + n →
      hears (rows count p n) k ≡ true
  once_crossed count p zero k h there le lt = absurd (omega arith)
  once_crossed count p (suc n) k h there le lt = elim (cases_lt p (job.owner k)) [
    | inl later ↦
        heard_append (channels_of job.owner job.flat.links p 0 count) (rows count (suc p) n) k
        ∙ rw (
          of_others p 0 count k (not_owned p k (λ e. absurd (omega arith))),
          once_crossed count (suc p) n k h there (omega arith)
              (omega arith),
        ) refl
    | inr now ↦
        let same : job.owner k ≡ p = omega arith in
        let own : owned job p k ≡ true = grind (arith, nat_tests) in
        let first = crossed p 0 count k own (ap (λ (x : ℕ). crosses job.owner job.flat.links x q) (sym same) ∙ h) (omega arith)
        (omega arith) in
        heard_append (channels_of job.owner job.flat.links p 0 count) (rows count (suc p) n) k ∙ rw first refl
  ]

  apart_rows : (count p n : ℕ) → AreApart job q (rows count p n)
  apart_rows count p zero = tt
  apart_rows count p (suc n) =
      apart_row p 0 count (rows count (suc p) n)
      (λ k own. earlier_owner count (suc p) n k (let same : job.owner k ≡ p = same_number (job.owner k) p own in omega arith))
      (apart_rows count (suc p) n)

pub all_apart : (job : Job) (q : ℕ) → AreApart job q (all_channels job.owner job.flat.links job.processes)
all_apart job q = apart_rows job q job.processes 0 job.processes

-- a link that is among them is found
any_among : (test : Link → Bool) (pre : List Link) (l : Link) (ls : List Link) → test l ≡ true → list_any test (pre ++ l ∷ ls) ≡ true
any_among test [] l ls h = rw h refl
any_among test (p ∷ pre) l ls h = by_test (test p) (any_among test pre l ls h)
  where
    by_test : (t : Bool) → list_any test (pre ++ l ∷ ls) ≡ true → (t || list_any test (pre ++ l ∷ ls)) ≡ true
    by_test true rest = refl
    by_test false rest = rest

module _ (job : Job) (q : ℕ) (are : job.channels ≡ all_channels job.owner job.flat.links job.processes)
    (within : (k : ℕ) → job.owner k < job.processes) where
  one_heard : (pre : List Link) (l : Link) (ls : List Link) → job.flat.links ≡ pre ++ l ∷ ls → owned job q l.to ≡ true →
      is_heard job q job.channels l.from ≡ not (owned job q l.from)
  one_heard pre l ls all to =
      ap (λ (chs : List Channel). is_heard job q chs l.from) are ∙ by_owner (owned job q l.from) refl
    where
      by_owner : (t : Bool) → owned job q l.from ≡ t → is_heard job q (all_channels job.owner job.flat.links job.processes) l.from ≡ not t
      by_owner true e =
          let none : crosses job.owner job.flat.links (job.owner l.from) q ≡ false = rw e refl in
          never_crossed job q job.processes 0 job.processes l.from none
      by_owner false e =
          let itself : nat_eq (job.owner l.from) (job.owner l.from) ≡ true = grind (arith, nat_tests) in
          let leads : leads_between job.owner (job.owner l.from) q l ≡ true = rw (itself, to) refl in
          let some : list_any (leads_between job.owner (job.owner l.from) q) job.flat.links ≡ true
          = ap (list_any (leads_between job.owner (job.owner l.from) q)) all
          ∙ any_among (leads_between job.owner (job.owner l.from) q) pre l ls leads in
          let crossing : crosses job.owner job.flat.links (job.owner l.from) q ≡ true = rw (e, some) refl in
          let there : job.owner l.to ≡ q = same_number (job.owner l.to) q to in
          let less : q < job.processes = subst (λ (n : ℕ). n < job.processes) there (within l.to) in
          once_crossed job q job.processes 0 job.processes l.from crossing less (omega arith) (omega (arith, within l.from))

  heard_behind : (pre ls : List Link) → job.flat.links ≡ pre ++ ls → AllHeard job q ls
  heard_behind pre [] all = tt
  heard_behind pre (l ∷ ls) all =
      ((λ to. one_heard pre l ls all to), heard_behind (pre ++ l ∷ []) ls (all ∙ sym (append_assoc pre (l ∷ []) ls)))

  pub all_heard : AllHeard job q job.flat.links
  all_heard = heard_behind [] job.flat.links refl

-- each leads from a process and to one
abbrev AllHaveEnds : ℕ → List Channel → Type 0
AllHaveEnds count [] = Unit {0}
AllHaveEnds count (c ∷ cs) = ((c.source < count) × (c.target < count)) × AllHaveEnds count cs

ends_append : (count : ℕ) (xs ys : List Channel) → AllHaveEnds count xs → AllHaveEnds count ys → AllHaveEnds count (xs ++ ys)
ends_append count [] ys h k = k
ends_append count (x ∷ xs) ys h k = (h.0, ends_append count xs ys h.1 k)

row_ends : (owner : ℕ → ℕ) (model : List Link) (count p r n : ℕ) → p < count → r + n ≤ count
    → AllHaveEnds count (channels_of owner model p r n)
row_ends owner model count p r zero lt le = tt
row_ends owner model count p r (suc n) lt le =
    by_test (row_ends owner model count p (suc r) n lt (omega arith)) (crosses owner model p r)
  where
    by_test : AllHaveEnds count (channels_of owner model p (suc r) n) → (t : Bool) →
        AllHaveEnds count (cond t (record { source = p; target = r } ∷ channels_of owner model p (suc r) n)
        (channels_of owner model p (suc r) n))
    by_test rest true = ((lt, omega arith), rest)
    by_test rest false = rest

rows_ends : (owner : ℕ → ℕ) (model : List Link) (count p n : ℕ) → p + n ≤ count → AllHaveEnds count (channels_from owner model count p n)
rows_ends owner model count p zero le = tt
rows_ends owner model count p (suc n) le =
    ends_append count (channels_of owner model p 0 count) (channels_from owner model count (suc p) n)
    (row_ends owner model count p 0 count (omega arith) (omega arith)) (rows_ends owner model count (suc p) n (omega arith))

all_have_ends : (job : Job) → AllHaveEnds job.processes (all_channels job.owner job.flat.links job.processes)
all_have_ends job = rows_ends job.owner job.flat.links job.processes 0 job.processes (omega arith)

have_sources : (count : ℕ) (cs : List Channel) → AllHaveEnds count cs → AllHaveSources count cs
have_sources count [] h = tt
have_sources count (c ∷ cs) h = (h.0.0, have_sources count cs h.1)

pub all_have_sources : (job : Job) → AllHaveSources job.processes (all_channels job.owner job.flat.links job.processes)
all_have_sources job = have_sources job.processes (all_channels job.owner job.flat.links job.processes) (all_have_ends job)

ends_at : (count : ℕ) (cs : List Channel) (l : ℕ) (c : Channel) → AllHaveEnds count cs → slice_get cs l ≡ Some c
    → (c.source < count) × (c.target < count)
ends_at count [] l c h e = absurd (cc)
ends_at count (x ∷ cs) zero c h e =
    let same : x ≡ c = cc in subst (λ (d : Channel). (d.source < count) × (d.target < count)) same h.0
ends_at count (x ∷ cs) (suc l) c h e = ends_at count cs l c h.1 e

pub channel_ends : (job : Job) (l : ℕ) (c : Channel) → slice_get (all_channels job.owner job.flat.links job.processes) l ≡ Some c
    → (c.source < job.processes) × (c.target < job.processes)
channel_ends job l c e = ends_at job.processes (all_channels job.owner job.flat.links job.processes) l c (all_have_ends job) e
