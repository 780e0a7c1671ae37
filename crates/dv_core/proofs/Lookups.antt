-- Reading a list after one index was written.
use Rattle.std.proofs.Common.{◌≡◌, ℕ, zero, suc, ◌+◌, ◌<◌, ◌≤◌, Bool, true, false, nat_eq, List, [], ◌∷◌, length, map, drop}
use Rattle.std.proofs.Common.{Some, refl, sym, ap, subst, ◌∙◌, arith}
use Rattle.std.specs.List.{slice_get}
use Rattle.std.proofs.Math.ListN.{set}
use Rattle.std.proofs.lemmas.Bool.Decides.{nat_tests}
use Rattle.dv_conservative.proofs.Local.{same_number}

pub set_same : {X : Type 0} (xs : List X) (i : ℕ) (x y : X) → slice_get xs i ≡ Some x → slice_get (set xs i y) i ≡ Some y
set_same [] i x y e = absurd (cc)
set_same (z ∷ xs) zero x y e = refl
set_same (z ∷ xs) (suc i) x y e = set_same xs i x y e

set_apart : {X : Type 0} (xs : List X) (i j : ℕ) (y : X) → (j ≡ i → ⊥) → slice_get (set xs i y) j ≡ slice_get xs j
set_apart [] i j y h = refl
set_apart (z ∷ xs) zero zero y h = absurd (h refl)
set_apart (z ∷ xs) zero (suc j) y h = refl
set_apart (z ∷ xs) (suc i) zero y h = refl
set_apart (z ∷ xs) (suc i) (suc j) y h = set_apart xs i j y (λ e. h (ap suc e))

apart : (m n : ℕ) → nat_eq m n ≡ false → m ≡ n → ⊥
apart m n h e = absurd (grind (arith, nat_tests))

pub set_other : {X : Type 0} (xs : List X) (i j : ℕ) (y : X) → nat_eq j i ≡ false → slice_get (set xs i y) j ≡ slice_get xs j
set_other xs i j y h = set_apart xs i j y (apart j i h)

-- what is so of each item is so after a write of an item of which it is so
pub set_each : {X : Type 0} (P : ℕ → X → Type 0) (xs : List X) (i : ℕ) (x y : X) → slice_get xs i ≡ Some x →
    ((j : ℕ) (z : X) → slice_get xs j ≡ Some z → P j z) → P i y → (j : ℕ) (z : X) → slice_get (set xs i y) j ≡ Some z → P j z
set_each {X} P xs i x y there others own j z e = by_index (nat_eq j i) refl
  where
    by_index : (t : Bool) → nat_eq j i ≡ t → P j z
    by_index true same =
        let index = same_number j i same in
        let now : slice_get (set xs i y) i ≡ Some z = subst (λ (n : ℕ). slice_get (set xs i y) n ≡ Some z) index e in
        let is = sym (set_same xs i x y there) ∙ now in
        let value : y ≡ z = cc in
        subst (λ (n : ℕ). P n z) (sym index) (subst (P i) value own)
    by_index false other = others j z (sym (set_other xs i j y other) ∙ e)

pub map_set : {X Y : Type 0} (f : X → Y) (xs : List X) (i : ℕ) (x : X) → map f (set xs i x) ≡ set (map f xs) i (f x)
map_set f [] i x = refl
map_set f (y ∷ xs) zero x = refl
map_set f (y ∷ xs) (suc i) x = ap (λ rest. f y ∷ rest) (map_set f xs i x)

-- a write of what stands there changes nothing
pub set_stays : {X : Type 0} (xs : List X) (i : ℕ) (x : X) → slice_get xs i ≡ Some x → set xs i x ≡ xs
set_stays [] i x e = refl
set_stays (y ∷ xs) zero x e = let same : y ≡ x = cc in ap (λ z. z ∷ xs) (sym same)
set_stays (y ∷ xs) (suc i) x e = ap (λ rest. y ∷ rest) (set_stays xs i x e)

pub number_itself : (n : ℕ) → nat_eq n n ≡ true
number_itself n = grind (arith, nat_tests)

pub empty_of : {X : Type 0} (xs : List X) → length xs ≡ 0 → xs ≡ []
empty_of [] e = refl
empty_of (x ∷ xs) e = absurd (omega arith)

pub some_at : {X : Type 0} (xs : List X) (i : ℕ) → i < length xs → (x : X) × (slice_get xs i ≡ Some x)
some_at [] i h = absurd (omega arith)
some_at (x ∷ xs) zero h = (x, refl)
some_at (x ∷ xs) (suc i) h = some_at xs i (omega arith)

pub drop_all : {X : Type 0} (xs : List X) (i : ℕ) → length xs ≤ i → drop i xs ≡ []
drop_all [] zero h = refl
drop_all [] (suc i) h = refl
drop_all (x ∷ xs) zero h = absurd (omega arith)
drop_all (x ∷ xs) (suc i) h = drop_all xs i (omega arith)

pub drop_item : {X : Type 0} (xs : List X) (i : ℕ) (x : X) → slice_get xs i ≡ Some x → drop i xs ≡ x ∷ drop (i + 1) xs
drop_item [] i x e = absurd (cc)
drop_item (y ∷ xs) zero x e = let same : y ≡ x = cc in ap (λ z. z ∷ xs) same
drop_item (y ∷ xs) (suc i) x e =
    let next : suc (i + 1) ≡ suc i + 1 = omega arith in
    drop_item xs i x e ∙ ap (λ (n : ℕ). x ∷ drop n (y ∷ xs)) next
