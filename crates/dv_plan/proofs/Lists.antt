-- Lists of which some items are kept.
use Rattle.std.proofs.Common.{◌≡◌, ◌⊎◌, inl, inr, ◌++◌, ℕ, zero, suc, ◌+◌, ◌<◌, ◌≤◌, Bool, true, false, ◌||◌, cond, nat_eq}
use Rattle.std.proofs.Common.{List, [], ◌∷◌, length, map, filter, drop, get_or, Some, refl, ap, sym, ◌∙◌, arith}
use Rattle.std.specs.List.{All, AllByRecursion, Contains, list_any, slice_get}
use Rattle.std.proofs.lemmas.List.{at_drop_more}
use Rattle.dv_partition.specs.Steps.{with_key}
use Rattle.dv_share.specs.Indices.{RiseFrom}
use Rattle.dv_share.specs.Share.{numbers_of}
use Rattle.dv_share.specs.declared.tables.Member.{Member}

module _ {X : Type 0} where
  pub all_at : (P : X → Type 0) (xs : List X) → AllByRecursion P xs → All P xs
  all_at P [] h k d lt = absurd (omega (arith, lt))
  all_at P (x ∷ xs) h zero d lt = h.0
  all_at P (x ∷ xs) h (suc k) d lt = all_at P xs h.1 k d (omega (arith, lt))

  pub all_weaken : (P Q : X → Type 0) → ((x : X) → P x → Q x) → (xs : List X) → AllByRecursion P xs → AllByRecursion Q xs
  all_weaken P Q f [] h = tt
  all_weaken P Q f (x ∷ xs) h = (f x h.0, all_weaken P Q f xs h.1)

  pub all_kept : (P : X → Type 0) (test : X → Bool) (xs : List X) → AllByRecursion P xs → AllByRecursion P (filter test xs)
  all_kept P test [] h = tt
  all_kept P test (x ∷ xs) h = by_test (test x) (all_kept P test xs h.1)
    where
      by_test : (b : Bool) → AllByRecursion P (filter test xs) → AllByRecursion P (cond b (x ∷ filter test xs) (filter test xs))
      by_test true rest = (h.0, rest)
      by_test false rest = rest

  pub few_kept : (test : X → Bool) (xs : List X) → length (filter test xs) ≤ length xs
  few_kept test [] = omega arith
  few_kept test (x ∷ xs) = by_test (test x) (few_kept test xs)
    where
      by_test : (b : Bool) → length (filter test xs) ≤ length xs → length (cond b (x ∷ filter test xs) (filter test xs)) ≤ length (x ∷ xs)
      by_test true rest = omega (arith, rest)
      by_test false rest = omega (arith, rest)

  -- where a test passes for one of a list, there is one
  pub any_some : (test : X → Bool) (xs : List X) → list_any test xs ≡ true → (x : X) × Contains xs x × (test x ≡ true)
  any_some test [] h = absurd (cc)
  any_some test (x ∷ xs) h = by_test (test x) refl (any_some test xs) h
    where
      by_test : (b : Bool) → test x ≡ b → (list_any test xs ≡ true → (y : X) × Contains xs y × (test y ≡ true))
          → (b || list_any test xs) ≡ true →
          (y : X) × Contains (x ∷ xs) y × (test y ≡ true)
      by_test true e rest h = (x, (0, omega arith, refl), e)
      by_test false e rest h = let r = rest h in (r.0, (suc r.1.0, omega (arith, r.1.1), r.1.2), r.2)

  -- an item of a list with one more
  pub get_pushed : (xs : List X) (x y : X) (p : ℕ) → slice_get (xs ++ x ∷ []) p ≡ Some y
      → (slice_get xs p ≡ Some y) ⊎ ((p ≡ length xs) × (y ≡ x))
  get_pushed [] x y zero e = let same : y ≡ x = cc in inr (refl, same)
  get_pushed [] x y (suc p) e = absurd (cc)
  get_pushed (z ∷ xs) x y zero e = inl e
  get_pushed (z ∷ xs) x y (suc p) e = elim (get_pushed xs x y p e) [
    | inl h ↦ inl h
    | inr h ↦ inr (omega (arith, h.0), h.1)
  ]

  -- the first of what is left
  pub first_left : (xs : List X) (i : ℕ) (x d : X) (rest : List X) → i < length xs → drop i xs ≡ x ∷ rest
      → (get_or xs i d ≡ x) × (drop (i + 1) xs ≡ rest)
  first_left xs i x d rest lt e =
      let both : get_or xs i d ∷ drop (i + 1) xs ≡ x ∷ rest = sym (at_drop_more (λ ys. ys) xs i d lt) ∙ e in
      (cc, cc)

  pub all_made : {Y : Type 0} (P : X → Type 0) (f : Y → X) → ((y : Y) → P (f y)) → (ys : List Y) → AllByRecursion P (map f ys)
  all_made P f h [] = tt
  all_made P f h (y ∷ ys) = (h y, all_made P f h ys)

  pub get_within : (xs : List X) (y : X) (p : ℕ) → slice_get xs p ≡ Some y → p < length xs
  get_within [] y p e = absurd (cc)
  get_within (x ∷ xs) y zero e = omega arith
  get_within (x ∷ xs) y (suc p) e = let rest = get_within xs y p e in omega (arith, rest)

  -- the items of a key are those that pass its test
  pub with_key_kept : (key : X → ℕ) (p : ℕ) (xs : List X) → with_key p (map key xs) xs ≡ filter (λ x. nat_eq (key x) p) xs
  with_key_kept key p [] = refl
  with_key_kept key p (x ∷ xs) = ap (λ ys. cond (nat_eq (key x) p) (x ∷ ys) ys) (with_key_kept key p xs)

-- what is made of the items that pass, and what passes of what is made
pub map_kept : {X Y : Type 0} (f : X → Y) (test : Y → Bool) (xs : List X) → map f (filter (λ x. test (f x)) xs) ≡ filter test (map f xs)
map_kept f test [] = refl
map_kept f test (x ∷ xs) = by_test (test (f x)) (map_kept f test xs)
  where
    by_test : (b : Bool) → map f (filter (λ y. test (f y)) xs) ≡ filter test (map f xs) →
        map f (cond b (x ∷ filter (λ y. test (f y)) xs) (filter (λ y. test (f y)) xs))
        ≡ cond b (f x ∷ filter test (map f xs)) (filter test (map f xs))
    by_test true rest = ap (λ ys. f x ∷ ys) rest
    by_test false rest = rest

lower : (low high : ℕ) (ps : List ℕ) → low ≤ high → RiseFrom high ps → RiseFrom low ps
lower low high [] le h = tt
lower low high (p ∷ ps) le h = (omega (arith, le, h.0), h.1)

-- numbers of components that are kept rise as they did
pub rise_kept : (test : Member → Bool) (low : ℕ) (ms : List Member) → RiseFrom low (numbers_of ms)
    → RiseFrom low (numbers_of (filter test ms))
rise_kept test low [] h = tt
rise_kept test low (m ∷ ms) h = by_test (test m) (rise_kept test (suc m.number) ms h.1)
  where
    by_test : (b : Bool) → RiseFrom (suc m.number) (numbers_of (filter test ms))
        → RiseFrom low (numbers_of (cond b (m ∷ filter test ms) (filter test ms)))
    by_test true rest = (h.0, rest)
    by_test false rest = lower low (suc m.number) (numbers_of (filter test ms)) (omega (arith, h.0)) rest
