-- What stands at an index of a list that grows or changes.
use Rattle.std.proofs.Common.{◌≡◌, ℕ, zero, suc, ◌<◌, ◌≤◌, List, [], ◌∷◌, ◌++◌, length, get_or, map, set, refl, ap, arith}
use Rattle.std.specs.Prelude.{Option, Some, None, slice_get}
use Rattle.std.proofs.lemmas.Option.{slice_get_read}
use Rattle.dv_coded.specs.Components.{indexed_count}

pub there-pushed : {X : Type 0} (xs : List X) (y x : X) (k : ℕ) → slice_get xs k ≡ Some x → slice_get (xs ++ y ∷ []) k ≡ Some x
there-pushed [] y x k there = absurd (cc)
there-pushed (z ∷ xs) y x zero there = there
there-pushed (z ∷ xs) y x (suc k) there = there-pushed xs y x k there

pub pushed-there : {X : Type 0} (xs : List X) (y : X) → slice_get (xs ++ y ∷ []) (length xs) ≡ Some y
pushed-there [] y = refl
pushed-there (x ∷ xs) y = pushed-there xs y

-- what stands somewhere after another was put at an index is that one, or stood there before
pub there-set : {X : Type 0} (P : Type 0) (xs : List X) (i j : ℕ) (v x : X) → slice_get (set xs i v) j ≡ Some x →
    (i ≡ j → v ≡ x → P) → (slice_get xs j ≡ Some x → P) → P
there-set P [] i j v x there same other = other there
there-set P (y ∷ xs) zero zero v x there same other = same refl (cc)
there-set P (y ∷ xs) zero (suc j) v x there same other = other there
there-set P (y ∷ xs) (suc i) zero v x there same other = other there
there-set P (y ∷ xs) (suc i) (suc j) v x there same other = there-set P xs i j v x there (λ e. same (ap suc e)) other

-- no index
abbrev pub nowhere : {X : Type 0} → X → Option ℕ
nowhere x = None

-- no index stands where there are none
pub none-there : {X : Type 0} (xs : List X) (index k : ℕ) → slice_get (map nowhere xs) index ≡ Some (Some k) → ⊥
none-there [] index k there = absurd (cc)
none-there (x ∷ xs) zero k there = absurd (cc)
none-there (x ∷ xs) (suc index) k there = none-there xs index k there

-- a view of what stands at an index
pub there-map : {X Y Z : Type 0} (f : X → Y) (g : Y → Z) (xs : List X) (k : ℕ) (y : Y) → slice_get (map f xs) k ≡ Some y →
    slice_get (map (λ x. g (f x)) xs) k ≡ Some (g y)
there-map f g [] k y there = absurd (cc)
there-map f g (x ∷ xs) zero y there = let same : f x ≡ y = cc in ap (λ z. Some (g z)) same
there-map f g (x ∷ xs) (suc k) y there = there-map f g xs k y there

-- how many have an index: one more, at most all, and none
pub count-set : (indices : List (Option ℕ)) (i k : ℕ) → slice_get indices i ≡ Some None →
    indexed_count (set indices i (Some k)) ≡ suc (indexed_count indices)
count-set [] i k there = absurd (cc)
count-set (None ∷ indices) zero k there = refl
count-set (Some j ∷ indices) zero k there = absurd (cc)
count-set (None ∷ indices) (suc i) k there = count-set indices i k there
count-set (Some j ∷ indices) (suc i) k there = ap suc (count-set indices i k there)

pub count-within : (indices : List (Option ℕ)) → indexed_count indices ≤ length indices
count-within [] = omega arith
count-within (None ∷ indices) = omega (arith, count-within indices)
count-within (Some k ∷ indices) = omega (arith, count-within indices)

pub count-none : {X : Type 0} (xs : List X) → indexed_count (map nowhere xs) ≡ 0
count-none [] = refl
count-none (x ∷ xs) = count-none xs

-- what is no index is none
pub none-else : (o : Option ℕ) → ((k : ℕ) → o ≡ Some k → ⊥) → o ≡ None
none-else None not = refl
none-else (Some k) not = absurd (not k refl)

-- what is read at an index stands there
pub read-there : {X : Type 0} (xs : List X) (k : ℕ) (x : X) → k < length xs → x ≡ get_or xs k x → slice_get xs k ≡ Some x
read-there xs k x within read = slice_get_read xs (length xs) k x refl within read
