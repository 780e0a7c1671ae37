-- Lists cut by time.
use Rattle.std.proofs.Common.{◌≡◌, ℕ, suc, ◌<◌, Bool, true, false, not, cond, List, [], ◌∷◌, ◌++◌, length, get_or, refl, sym, ap}
use Rattle.std.proofs.Common.{◌∙◌, arith}
use Rattle.std.specs.List.{AllPairs, filter}
use Rattle.std.proofs.lemmas.Bool.{false≢true}
use Rattle.std.proofs.lemmas.Bool.Decides.{nat_tests}
use Rattle.std.proofs.lemmas.List.Elements.{filter-append}
use Rattle.dv_time.specs.Time.{is_before}
use Rattle.dv_time.specs.declared.time.Time.{Time}
use Rattle.dv_bag.specs.declared.entry.Entry.{Entry}
use Rattle.dv_bag.specs.declared.entry.Outer.{Outer}
use Rattle.dv_bag.specs.Part.{IsByTime, PartOf, before, joined, nothing, since}

-- the order of times
later : (a b c : Time) → is_before b a ≡ false → is_before a c ≡ false → is_before b c ≡ false
later a b c h k = grind (arith, nat_tests)

sooner : (a c d : Time) → is_before d c ≡ false → is_before a c ≡ true → is_before a d ≡ true
sooner a c d h k = grind (arith, nat_tests)

module _ {X : Type 0} where
  -- what passes a test fails its negation
  apart : (p : X → Bool) (xs : List X) → filter (λ x. not (p x)) (filter p xs) ≡ []
  apart p [] = refl
  apart p (x ∷ xs) = step (apart p xs) (p x) refl
    where
      step : filter (λ x. not (p x)) (filter p xs) ≡ [] → (t : Bool) → p x ≡ t
          → filter (λ x. not (p x)) (cond t (x ∷ filter p xs) (filter p xs)) ≡ []
      step rest true e = rw e rest
      step rest false e = rest

  apart_turned : (p : X → Bool) (xs : List X) → filter p (filter (λ x. not (p x)) xs) ≡ []
  apart_turned p [] = refl
  apart_turned p (x ∷ xs) = step (apart_turned p xs) (p x) refl
    where
      step : filter p (filter (λ x. not (p x)) xs) ≡ [] → (t : Bool) → p x ≡ t
          → filter p (cond (not t) (x ∷ filter (λ x. not (p x)) xs) (filter (λ x. not (p x)) xs)) ≡ []
      step rest true e = rest
      step rest false e = rw e rest

  -- of two tests the narrower one decides
  narrower : (p q : X → Bool) → ((x : X) → p x ≡ true → q x ≡ true) → (xs : List X) → filter p (filter q xs) ≡ filter p xs
  narrower p q within [] = refl
  narrower p q within (x ∷ xs) = step (narrower p q within xs) (q x) refl (p x) refl
    where
      step : filter p (filter q xs) ≡ filter p xs → (t : Bool) → q x ≡ t → (u : Bool) → p x ≡ u
          → filter p (cond t (x ∷ filter q xs) (filter q xs)) ≡ cond u (x ∷ filter p xs) (filter p xs)
      step rest true e true k = rw k (ap (λ ys. x ∷ ys) rest)
      step rest true e false k = rw k rest
      step rest false e true k = absurd (false≢true (sym e ∙ within x k))
      step rest false e false k = rest

  module _ (time : X → Time) where
    IsRising : List X → Type 0
    IsRising xs = AllPairs (λ a b. is_before (time b) (time a) ≡ false) xs

    first_part : Time → List X → List X
    first_part c xs = filter (λ x. is_before (time x) c) xs

    last_part : Time → List X → List X
    last_part c xs = filter (λ x. not (is_before (time x) c)) xs

    rising_tail : (x : X) (xs : List X) → IsRising (x ∷ xs) → IsRising xs
    unfolding IsRising
    rising_tail x xs h i j d lt within = h (suc i) (suc j) d (omega arith) (omega arith)

    -- where none is before the time of one that is not, the cut is in front
    none_before : (c : Time) (x : X) (xs : List X) → is_before (time x) c ≡ false
        → ((j : ℕ) (d : X) → j < length xs → is_before (time (get_or xs j d)) (time x) ≡ false) → first_part c xs ≡ []
    unfolding first_part
    none_before c x [] late after = refl
    none_before c x (y ∷ ys) late after =
        rw (later (time x) (time y) c (after 0 x (omega arith)) late) (none_before c x ys late (λ j d lt. after (suc j) d (omega arith)))

    all_since : (c : Time) (x : X) (xs : List X) → is_before (time x) c ≡ false
        → ((j : ℕ) (d : X) → j < length xs → is_before (time (get_or xs j d)) (time x) ≡ false) → last_part c xs ≡ xs
    unfolding last_part
    all_since c x [] late after = refl
    all_since c x (y ∷ ys) late after =
        rw (later (time x) (time y) c (after 0 x (omega arith)) late)
        (ap (λ zs. y ∷ zs) (all_since c x ys late (λ j d lt. after (suc j) d (omega arith))))

    together : (c : Time) (xs : List X) → IsRising xs → first_part c xs ++ last_part c xs ≡ xs
    unfolding first_part last_part IsRising
    together c [] h = refl
    together c (x ∷ xs) h = step (together c xs (rising_tail x xs h)) (is_before (time x) c) refl
      where
        after : (j : ℕ) (d : X) → j < length xs → is_before (time (get_or xs j d)) (time x) ≡ false
        after j d lt = h 0 (suc j) d (omega arith) (omega arith)

        step : first_part c xs ++ last_part c xs ≡ xs → (t : Bool) → is_before (time x) c ≡ t
            → cond t (x ∷ first_part c xs) (first_part c xs) ++ cond (not t) (x ∷ last_part c xs) (last_part c xs) ≡ x ∷ xs
        step rest true e = ap (λ ys. x ∷ ys) rest
        step rest false e =
            ap (λ ys. ys ++ (x ∷ last_part c xs)) (none_before c x xs e after) ∙ ap (λ ys. x ∷ ys) (all_since c x xs e after)

-- a part of two lists
abbrev part_of : List Entry → List Outer → PartOf
part_of es os = record { entries = es; outer = os }

both : (es fs : List Entry) (os us : List Outer) → es ≡ fs → os ≡ us → part_of es os ≡ part_of fs us
both es fs os us e o = ap (λ x. part_of x os) e ∙ ap (part_of fs) o

pub parted : (c : Time) (p : PartOf) → IsByTime p → joined (before c p) (since c p) ≡ p
unfolding first_part last_part IsRising
parted c p h = both _ _ _ _ (together (λ (e : Entry). e.time) c p.entries h.0) (together (λ (o : Outer). o.time) c p.outer h.1)

pub nothing_since : (c : Time) (p : PartOf) → since c (before c p) ≡ nothing
nothing_since c p = both _ _ _ _ (apart (λ (e : Entry). is_before e.time c) p.entries) (apart (λ (o : Outer). is_before o.time c) p.outer)

pub nothing_before : (c : Time) (p : PartOf) → before c (since c p) ≡ nothing
nothing_before c p =
    both _ _ _ _ (apart_turned (λ (e : Entry). is_before e.time c) p.entries)
    (apart_turned (λ (o : Outer). is_before o.time c) p.outer)

pub before_both : (c d : Time) (p : PartOf) → is_before d c ≡ false → before c (before d p) ≡ before c p
before_both c d p h = both _ _ _ _
    (narrower (λ (e : Entry). is_before e.time c) (λ (e : Entry). is_before e.time d) (λ e k. sooner e.time c d h k) p.entries)
    (narrower (λ (o : Outer). is_before o.time c) (λ (o : Outer). is_before o.time d) (λ o k. sooner o.time c d h k) p.outer)

pub before_joined : (c : Time) (p q : PartOf) → before c (joined p q) ≡ joined (before c p) (before c q)
before_joined c p q =
    both _ _ _ _ (filter-append (λ (e : Entry). is_before e.time c) p.entries q.entries)
    (filter-append (λ (o : Outer). is_before o.time c) p.outer q.outer)

pub since_joined : (c : Time) (p q : PartOf) → since c (joined p q) ≡ joined (since c p) (since c q)
since_joined c p q =
    both _ _ _ _ (filter-append (λ (e : Entry). not (is_before e.time c)) p.entries q.entries)
    (filter-append (λ (o : Outer). not (is_before o.time c)) p.outer q.outer)
