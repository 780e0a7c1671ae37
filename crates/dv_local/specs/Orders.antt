-- Items of several lists, in an order of their own.
use Rattle.std.specs.Prelude.{◌≡◌, ℕ, ◌+◌, ◌<◌, if◌then◌else◌, nat_eq, List, [], ◌∷◌, ◌++◌, drop, length, slice_index_or, slice_set, take}
use Rattle.std.specs.List.{All}

-- the items in an order of list numbers: each number gives the next item of its list
abbrev pub in_order : {X : Type 0} → List ℕ → List (List X) → List X
in_order [] lists = []
in_order (n ∷ order) lists =
    take 1 (slice_index_or lists n []) ++ in_order order (slice_set lists n (drop 1 (slice_index_or lists n [])))

-- the items of the only list, or of several in an order
abbrev pub in_turn : {X : Type 0} → List ℕ → List (List X) → List X
in_turn order lists = if nat_eq (length lists) 1 then slice_index_or lists 0 [] else in_order order lists

-- how often a number occurs
abbrev pub times_of : ℕ → List ℕ → ℕ
times_of n [] = 0
times_of n (m ∷ order) = (if nat_eq n m then 1 else 0) + times_of n order

-- each number is that of a list, and occurs as often as that list has items
pub record AreCounted {X : Type 0} (order : List ℕ) (lists : List (List X)) : Type 0 where
  pub within : All (λ (n : ℕ). n < length lists) order
  pub each : (n : ℕ) → n < length lists → length (slice_index_or lists n []) ≡ times_of n order
