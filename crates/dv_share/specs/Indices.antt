-- Items by the index of a component, and lists of indices that rise.
use Rattle.std.specs.Prelude.{ℕ, suc, ◌<◌, ◌≤◌, Bool, nat_eq, if◌then◌else◌, List, [], ◌∷◌, length, map, Option, Some, None, slice_index_or}
use Rattle.std.specs.List.{AllWithin, list_any}
use Rattle.dv_share.specs.declared.index.Indexed.{Indexed}

-- the item at an index, if there is one
abbrev pub found : {X : Type 0} → ℕ → List (Indexed X) → Option X
found p [] = None
found p (x ∷ xs) = if nat_eq x.index p then Some x.what else found p xs

abbrev pub indices_of : {X : Type 0} → List (Indexed X) → List ℕ
indices_of xs = map (λ x. x.index) xs

abbrev pub is_in : ℕ → List ℕ → Bool
is_in p ps = list_any (λ q. nat_eq q p) ps

-- each number is above the one before, and none is below the first
abbrev pub RiseFrom : ℕ → List ℕ → Type 0
RiseFrom low [] = Unit {0}
RiseFrom low (p ∷ ps) = (low ≤ p) × RiseFrom (suc p) ps

abbrev pub AreRising : List ℕ → Type 0
AreRising ps = RiseFrom 0 ps

-- The cursor is that of the first item that is not before an index.
pub record IsNext {X : Type 0} (p : ℕ) (xs : List (Indexed X)) (cursor : ℕ) : Type 0 where
  pub within : cursor ≤ length xs
  pub before : AllWithin (λ (x : Indexed X). x.index < p) xs 0 cursor
  pub next : (d : Indexed X) → cursor < length xs → p ≤ (slice_index_or xs cursor d).index
