-- Bags that are united port by port.
use Rattle.std.specs.Prelude.{◌≡◌, ℕ, slice_index_or, List, []}
use Rattle.dv_bag.specs.Bag.{Counts, IsBag, bag_at, union}

-- there are bags at each port, and in both lists together their union; past the last port there are no values
pub record Unite (a b both : List Counts) : Type 0 where
  pub left : (port : ℕ) → IsBag (bag_at a port)
  pub right : (port : ℕ) → IsBag (bag_at b port)
  pub together : (port : ℕ) → bag_at both port ≡ union (bag_at a port) (bag_at b port)

-- the same for each component
abbrev pub AllUnite : List (List Counts) → List (List Counts) → List (List Counts) → Type 0
AllUnite a b both = (k : ℕ) → Unite (slice_index_or a k []) (slice_index_or b k []) (slice_index_or both k [])
