-- The lines of a part that stands by time are those of each of its times, one time after the other.
use Rattle.std.proofs.Common.{◌≡◌, ◌⊎◌, inl, inr, ℕ, ◌+◌, Bool, true, false, not, cond, List, [], ◌∷◌, ◌++◌, map}
use Rattle.std.proofs.Common.{refl, sym, ap, ◌∙◌, arith}
use Rattle.std.specs.List.{AllByRecursion as AllOf, filter, flat_map}
use Rattle.std.specs.Ordering.{is_eq}
use Rattle.std.proofs.lemmas.Bool.{false≢true}
use Rattle.std.proofs.lemmas.Bool.Decides.{nat_tests}
use Rattle.std.proofs.lemmas.List.Kept.{AllPairs-filter}
use Rattle.dv_time.specs.declared.time.Time.{Time}
use Rattle.dv_time.specs.Time.{is_before, time_cmp}
use Rattle.dv_bag.specs.Part.{IsByTime, PartOf, before, since}
use Rattle.dv_bag.specs.declared.entry.Entry.{Entry}
use Rattle.dv_bag.specs.declared.entry.Outer.{Outer}
use Rattle.dv_bag.proofs.Cuts.{parted}
use Rattle.dv_text.specs.Merging.{groups_of, lines_by_time, trace_text}
use Rattle.dv_text.specs.Texts.{ComponentNames, ascending, instant_text, only_at, part_text, times_of, with_time}
use Rattle.dv_text.proofs.Groups.{same_time}
use Rattle.dv_text.proofs.Instants.{AllOf-weaker, IsEarly, IsLate, IsOnlyAt, text-append, text-at}

-- ---- Lists, and filters of them

module _ {X : Type 0} where
  AllOf-both : (P Q : X → Type 0) (xs : List X) → AllOf P xs → AllOf Q xs → AllOf (λ x. P x × Q x) xs
  AllOf-both P Q [] p q = tt
  AllOf-both P Q (x ∷ xs) p q = ((p.0, q.0), AllOf-both P Q xs p.1 q.1)

  -- two tests that agree on all keep the same
  filter-same : (p q : X → Bool) (xs : List X) → AllOf (λ x. p x ≡ q x) xs → filter p xs ≡ filter q xs
  filter-same p q [] h = refl
  filter-same p q (x ∷ xs) h =
      ap (λ b. cond b (x ∷ filter p xs) (filter p xs)) h.0 ∙ ap (λ ys. cond (q x) (x ∷ ys) ys) (filter-same p q xs h.1)

  -- of two tests the narrower one decides
  narrower : (p q : X → Bool) → ((x : X) → p x ≡ true → q x ≡ true) → (xs : List X) → filter p (filter q xs) ≡ filter p xs
  narrower p q within [] = refl
  narrower p q within (x ∷ xs) = step (narrower p q within xs) (q x) refl (p x) refl
    where
      step : filter p (filter q xs) ≡ filter p xs → (t : Bool) → q x ≡ t → (u : Bool) → p x ≡ u
          → filter p (cond t (x ∷ filter q xs) (filter q xs)) ≡ cond u (x ∷ filter p xs) (filter p xs)
      step rest true e true k = rw k (ap (λ ys. x ∷ ys) rest)
      step rest true e false k = rw k rest
      step rest false e true k = absurd (false≢true (sym e ∙ within x k))
      step rest false e false k = rest

  -- what is kept passed the test
  filter-passed : (P : X → Type 0) (p : X → Bool) (xs : List X) → AllOf P xs → AllOf (λ x. P x × (p x ≡ true)) (filter p xs)
  filter-passed P p [] h = tt
  filter-passed P p (x ∷ xs) h = step (filter-passed P p xs h.1) (p x) refl
    where
      step : AllOf (λ y. P y × (p y ≡ true)) (filter p xs) → (t : Bool) → p x ≡ t
          → AllOf (λ y. P y × (p y ≡ true)) (cond t (x ∷ filter p xs) (filter p xs))
      step rest true e = ((h.0, e), rest)
      step rest false e = rest

  AllOf-any : (xs : List X) → AllOf (λ x. Unit {0}) xs
  AllOf-any [] = tt
  AllOf-any (x ∷ xs) = (tt, AllOf-any xs)

  none : (xs : List X) → AllOf (λ x. ⊥) xs → xs ≡ []
  none [] h = refl
  none (x ∷ xs) h = absurd h.0

  flat_map-same : (f g : X → List ℕ) (xs : List X) → AllOf (λ x. f x ≡ g x) xs → flat_map f xs ≡ flat_map g xs
  flat_map-same f g [] h = refl
  flat_map-same f g (x ∷ xs) h = ap (λ t. t ++ flat_map f xs) h.0 ∙ ap (λ t. g x ++ t) (flat_map-same f g xs h.1)

  -- what holds of mapped elements and of others
  AllOf-map : {Y : Type 0} (P : Y → Type 0) (f : X → Y) (xs : List X) (ys : List Y) → AllOf P (map f xs ++ ys) →
      AllOf (λ x. P (f x)) xs × AllOf P ys
  AllOf-map P f [] ys h = (tt, h)
  AllOf-map P f (x ∷ xs) ys h = let rest = AllOf-map P f xs ys h.1 in ((h.0, rest.0), rest.1)

  AllOf-mapped : {Y : Type 0} (P : Y → Type 0) (f : X → Y) (xs : List X) → AllOf P (map f xs) → AllOf (λ x. P (f x)) xs
  AllOf-mapped P f [] h = tt
  AllOf-mapped P f (x ∷ xs) h = (h.0, AllOf-mapped P f xs h.1)

is_false : (b : Bool) → not b ≡ true → b ≡ false
is_false true h = absurd (false≢true h)
is_false false h = refl

-- ---- The order of times

-- the first time after one
abbrev next : Time → Time
next t = record { tick = t.tick; micro = t.micro + 1 }

goes_on : (t u v : Time) → is_before t u ≡ true → is_before u v ≡ true → is_before t v ≡ true
goes_on t u v h k = grind (arith, nat_tests)

alike : (t u : Time) → is_before t u ≡ false → is_before u t ≡ false → is_eq (time_cmp t u) ≡ true
alike t u h k = grind (arith, nat_tests)

itself_is_next : (t : Time) → is_before t (next t) ≡ true
itself_is_next t = grind (arith, nat_tests)

itself_is_equal : (t : Time) → is_eq (time_cmp t t) ≡ true
itself_is_equal t = grind (arith, nat_tests)

later_is_not_next : (t u : Time) → is_before t u ≡ true → is_before u (next t) ≡ false
later_is_not_next t u h = grind (arith, nat_tests)

later_is_unequal : (t u : Time) → is_before t u ≡ true → is_eq (time_cmp u t) ≡ false
later_is_unequal t u h = grind (arith, nat_tests)

-- ---- Ascending times

abbrev IsIn : Time → List Time → Type 0
IsIn t [] = ⊥
IsIn t (u ∷ us) = (t ≡ u) ⊎ IsIn t us

abbrev Ascend : List Time → Type 0
Ascend [] = Unit {0}
Ascend (t ∷ ts) = AllOf (λ u. is_before t u ≡ true) ts × Ascend ts

with_time-all : (P : Time → Type 0) (t : Time) (ts : List Time) → P t → AllOf P ts → AllOf P (with_time t ts)
with_time-all P t [] h every = (h, tt)
with_time-all P t (u ∷ us) h every = step (with_time-all P t us h every.1) (is_before t u) (is_before u t)
  where
    step : AllOf P (with_time t us) → (b d : Bool) → AllOf P (cond b (t ∷ u ∷ us) (cond d (u ∷ with_time t us) (u ∷ us)))
    step rest true d = (h, every)
    step rest false true = (every.0, rest)
    step rest false false = every

with_time-ascends : (t : Time) (ts : List Time) → Ascend ts → Ascend (with_time t ts)
with_time-ascends t [] up = (tt, tt)
with_time-ascends t (u ∷ us) up = step (with_time-ascends t us up.1) (is_before t u) refl (is_before u t) refl
  where
    step : Ascend (with_time t us) → (b : Bool) → is_before t u ≡ b → (d : Bool) → is_before u t ≡ d →
        Ascend (cond b (t ∷ u ∷ us) (cond d (u ∷ with_time t us) (u ∷ us)))
    step rest true e d k =
        ((e, AllOf-weaker (λ v. is_before u v ≡ true) (λ v. is_before t v ≡ true) (λ v h. goes_on t u v e h) us up.0), up)
    step rest false e true k = (with_time-all (λ v. is_before u v ≡ true) t us k up.0, rest)
    step rest false e false k = up

with_time-has : (t : Time) (ts : List Time) → IsIn t (with_time t ts)
with_time-has t [] = inl refl
with_time-has t (u ∷ us) = step (with_time-has t us) (is_before t u) refl (is_before u t) refl
  where
    step : IsIn t (with_time t us) → (b : Bool) → is_before t u ≡ b → (d : Bool) → is_before u t ≡ d →
        IsIn t (cond b (t ∷ u ∷ us) (cond d (u ∷ with_time t us) (u ∷ us)))
    step rest true e d k = inl refl
    step rest false e true k = inr rest
    step rest false e false k = inl (same_time t u (alike t u e k))

with_time-keeps : (t v : Time) (ts : List Time) → IsIn v ts → IsIn v (with_time t ts)
with_time-keeps t v [] there = absurd there
with_time-keeps t v (u ∷ us) there = step there (λ behind. with_time-keeps t v us behind) (is_before t u) (is_before u t)
  where
    step : (v ≡ u) ⊎ IsIn v us → (IsIn v us → IsIn v (with_time t us)) → (b d : Bool) →
        IsIn v (cond b (t ∷ u ∷ us) (cond d (u ∷ with_time t us) (u ∷ us)))
    step (inl e) keeps true d = inr (inl e)
    step (inl e) keeps false true = inl e
    step (inl e) keeps false false = inl e
    step (inr behind) keeps true d = inr (inr behind)
    step (inr behind) keeps false true = inr (keeps behind)
    step (inr behind) keeps false false = inr behind

ascending-ascends : (ts : List Time) → Ascend (ascending ts)
ascending-ascends [] = tt
ascending-ascends (t ∷ ts) = with_time-ascends t (ascending ts) (ascending-ascends ts)

ascending-has : (ts : List Time) → AllOf (λ t. IsIn t (ascending ts)) ts
ascending-has [] = tt
ascending-has (t ∷ ts) = (
  with_time-has t (ascending ts),
  AllOf-weaker (λ u. IsIn u (ascending ts)) (λ u. IsIn u (ascending (t ∷ ts))) (λ u there. with_time-keeps t u (ascending ts) there) ts
      (ascending-has ts),
)

-- ---- What is at the first time, and what is later

in_later : (t u : Time) (us : List Time) → AllOf (λ v. is_before t v ≡ true) us → IsIn u us → is_before t u ≡ true
in_later t u [] late there = absurd there
in_later t u (v ∷ vs) late (inl e) = ap (λ (w : Time). is_before t w) e ∙ late.0
in_later t u (v ∷ vs) late (inr there) = in_later t u vs late.1 there

-- of times that are the first one or later the first one alone is before the next
first_or_later : (t u : Time) (us : List Time) → AllOf (λ v. is_before t v ≡ true) us → IsIn u (t ∷ us) →
    is_before u (next t) ≡ is_eq (time_cmp u t)
first_or_later t u us late (inl e) =
    ap (λ (v : Time). is_before v (next t)) e ∙ itself_is_next t ∙ sym (ap (λ (v : Time). is_eq (time_cmp v t)) e ∙ itself_is_equal t)
first_or_later t u us late (inr there) =
    let h = in_later t u us late there in later_is_not_next t u h ∙ sym (later_is_unequal t u h)

still_in : (t u : Time) (us : List Time) → IsIn u (t ∷ us) → is_before u (next t) ≡ false → IsIn u us
still_in t u us (inl e) h = absurd (false≢true (sym h ∙ ap (λ (v : Time). is_before v (next t)) e ∙ itself_is_next t))
still_in t u us (inr there) h = there

module _ {X : Type 0} (time : X → Time) (t : Time) where
  passed : (xs : List X) → AllOf (λ x. is_before (time x) t ≡ true) (filter (λ x. is_before (time x) t) xs)
  passed xs =
      AllOf-weaker (λ x. Unit {0} × (is_before (time x) t ≡ true)) (λ x. is_before (time x) t ≡ true) (λ x h. h.1) _
      (filter-passed (λ x. Unit {0}) (λ x. is_before (time x) t) xs (AllOf-any xs))

  failed : (xs : List X) → AllOf (λ x. is_before (time x) t ≡ false) (filter (λ x. not (is_before (time x) t)) xs)
  failed xs =
      AllOf-weaker (λ x. Unit {0} × (not (is_before (time x) t) ≡ true)) (λ x. is_before (time x) t ≡ false)
      (λ x h. is_false (is_before (time x) t) h.1) _
      (filter-passed (λ x. Unit {0}) (λ x. not (is_before (time x) t)) xs (AllOf-any xs))

  at_it : (xs : List X) → AllOf (λ x. time x ≡ t) (filter (λ x. is_eq (time_cmp (time x) t)) xs)
  at_it xs =
      AllOf-weaker (λ x. Unit {0} × (is_eq (time_cmp (time x) t) ≡ true)) (λ x. time x ≡ t) (λ x h. same_time (time x) t h.1) _
      (filter-passed (λ x. Unit {0}) (λ x. is_eq (time_cmp (time x) t)) xs (AllOf-any xs))

  module _ (us : List Time) (late : AllOf (λ v. is_before t v ≡ true) us) where
    firsts : (xs : List X) → AllOf (λ x. IsIn (time x) (t ∷ us)) xs →
        filter (λ x. is_before (time x) (next t)) xs ≡ filter (λ x. is_eq (time_cmp (time x) t)) xs
    firsts xs there =
        filter-same (λ x. is_before (time x) (next t)) (λ x. is_eq (time_cmp (time x) t)) xs
        (AllOf-weaker (λ x. IsIn (time x) (t ∷ us)) (λ x. is_before (time x) (next t) ≡ is_eq (time_cmp (time x) t))
        (λ x h. first_or_later t (time x) us late h) xs there)

    others : (xs : List X) → AllOf (λ x. IsIn (time x) (t ∷ us)) xs →
        AllOf (λ x. IsIn (time x) us) (filter (λ x. not (is_before (time x) (next t))) xs)
    others xs there =
        AllOf-weaker (λ x. IsIn (time x) (t ∷ us) × (not (is_before (time x) (next t)) ≡ true)) (λ x. IsIn (time x) us)
        (λ x h. still_in t (time x) us h.0 (is_false (is_before (time x) (next t)) h.1)) _
        (filter-passed (λ x. IsIn (time x) (t ∷ us)) (λ x. not (is_before (time x) (next t))) xs there)

  -- the first time and those before the next are of no weight at a later one
  at_later : (u : Time) → is_before t u ≡ true → (xs : List X) →
      filter (λ x. is_eq (time_cmp (time x) u)) (filter (λ x. not (is_before (time x) (next t))) xs)
      ≡ filter (λ x. is_eq (time_cmp (time x) u)) xs
  at_later u late xs =
      narrower (λ x. is_eq (time_cmp (time x) u)) (λ x. not (is_before (time x) (next t)))
      (λ x h. ap not (ap (λ (v : Time). is_before v (next t)) (same_time (time x) u h) ∙ later_is_not_next t u late)) xs

-- ---- Parts

abbrev part_of : List Entry → List Outer → PartOf
part_of es os = record { entries = es; outer = os }

both : (es fs : List Entry) (os us : List Outer) → es ≡ fs → os ≡ us → part_of es os ≡ part_of fs us
both es fs os us e o = ap (λ x. part_of x os) e ∙ ap (part_of fs) o

abbrev entry_time : Entry → Time
entry_time e = e.time

abbrev outer_time : Outer → Time
outer_time o = o.time

-- all of a part is at some of these times
abbrev AreTimesOf : List Time → PartOf → Type 0
AreTimesOf ts p = AllOf (λ e. IsIn (entry_time e) ts) p.entries × AllOf (λ o. IsIn (outer_time o) ts) p.outer

times_of-all : (p : PartOf) → AreTimesOf (times_of p) p
times_of-all p =
    let every = map entry_time p.entries ++ map outer_time p.outer in
    let halves = AllOf-map (λ t. IsIn t (times_of p)) entry_time p.entries (map outer_time p.outer) (ascending-has every) in
    (halves.0, AllOf-mapped (λ t. IsIn t (times_of p)) outer_time p.outer halves.1)

before_by_time : (c : Time) (p : PartOf) → IsByTime p → IsByTime (before c p)
before_by_time c p by = (
  AllPairs-filter (λ (a b : Entry). is_before b.time a.time ≡ false) (λ (e : Entry). is_before e.time c) p.entries by.0,
  AllPairs-filter (λ (a b : Outer). is_before b.time a.time ≡ false) (λ (o : Outer). is_before o.time c) p.outer by.1,
)

pub since_by_time : (c : Time) (p : PartOf) → IsByTime p → IsByTime (since c p)
since_by_time c p by = (
  AllPairs-filter (λ (a b : Entry). is_before b.time a.time ≡ false) (λ (e : Entry). not (is_before e.time c)) p.entries by.0,
  AllPairs-filter (λ (a b : Outer). is_before b.time a.time ≡ false) (λ (o : Outer). not (is_before o.time c)) p.outer by.1,
)

module _ (all : List ComponentNames) (outputs : List (List ℕ)) where
  -- the lines before a time, and those since it
  lines_cut : (c : Time) (p : PartOf) → IsByTime p →
      trace_text all outputs p ≡ trace_text all outputs (before c p) ++ trace_text all outputs (since c p)
  lines_cut c p by =
      let early : IsEarly c (before c p) = (passed entry_time c p.entries, passed outer_time c p.outer) in
      let late : IsLate c (since c p) = (failed entry_time c p.entries, failed outer_time c p.outer) in
      ap (trace_text all outputs) (sym (parted c p by)) ∙ text-append all outputs c (before c p) (since c p) early late

  abbrev lines_of : PartOf → Time → List ℕ
  lines_of p t = instant_text all outputs t (only_at t p)

  lines_by_times : (ts : List Time) (p : PartOf) → Ascend ts → AreTimesOf ts p → IsByTime p →
      trace_text all outputs p ≡ flat_map (lines_of p) ts
  lines_by_times [] p up of_it by =
      ap (λ es. lines_by_time all es (groups_of outputs p.outer)) (none p.entries of_it.0)
      ∙ ap (λ os. lines_by_time all [] (groups_of outputs os)) (none p.outer of_it.1)
  lines_by_times (t ∷ us) p up of_it by =
      let c = next t in
      let rest = since c p in
      let firsts_are : before c p ≡ only_at t p =
      both _ _ _ _ (firsts entry_time t us up.0 p.entries of_it.0) (firsts outer_time t us up.0 p.outer of_it.1) in
      let at_first : IsOnlyAt t (only_at t p) = (at_it entry_time t p.entries, at_it outer_time t p.outer) in
      let left : AreTimesOf us rest = (others entry_time t us up.0 p.entries of_it.0, others outer_time t us up.0 p.outer of_it.1) in
      let same : AllOf (λ u. lines_of rest u ≡ lines_of p u) us =
      AllOf-weaker (λ u. is_before t u ≡ true) (λ u. lines_of rest u ≡ lines_of p u)
      (λ u h. ap (instant_text all outputs u) (both _ _ _ _ (at_later entry_time t u h p.entries) (at_later outer_time t u h p.outer)))
      us up.0 in
      lines_cut c p by
      ∙ ap (λ x. x ++ trace_text all outputs rest)
      (ap (trace_text all outputs) firsts_are ∙ text-at all outputs t (only_at t p) at_first)
      ∙ ap (λ x. lines_of p t ++ x)
      (lines_by_times us rest up.1 left (since_by_time c p by) ∙ flat_map-same (lines_of rest) (lines_of p) us same)

  -- the merged lines of a part that stands by time are its text
  pub part_text-merged : (p : PartOf) → IsByTime p → trace_text all outputs p ≡ part_text all outputs p
  part_text-merged p by =
      lines_by_times (times_of p) p (ascending-ascends (map entry_time p.entries ++ map outer_time p.outer)) (times_of-all p) by

  -- a time cuts the text of a part that stands by time in two
  pub part_text-cut : (c : Time) (p : PartOf) → IsByTime p →
      part_text all outputs (before c p) ++ part_text all outputs (since c p) ≡ part_text all outputs p
  part_text-cut c p by =
      ap (λ x. x ++ part_text all outputs (since c p)) (sym (part_text-merged (before c p) (before_by_time c p by)))
      ∙ ap (λ x. trace_text all outputs (before c p) ++ x) (sym (part_text-merged (since c p) (since_by_time c p by)))
      ∙ sym (lines_cut c p by)
      ∙ part_text-merged p by
