-- A list that is divided into lists.
use Rattle.std.specs.Prelude.{ℕ, suc, ◌<◌, ◌≤◌, List, [], ◌∷◌, length, slice_index_or, slice_range}

-- the lists that begin at these indices, each up to where the next one begins
abbrev pub cut : List ℕ → List ℕ → List (List ℕ)
cut [] targets = []
cut (start ∷ starts) targets = slice_range targets start (slice_index_or starts 0 (length targets)) ∷ cut starts targets

-- indices of a list of a length, in order
pub record IsCut (starts : List ℕ) (total : ℕ) : Type 0 where
  pub in_order : (i : ℕ) → i < length starts → slice_index_or starts i 0 ≤ slice_index_or starts (suc i) total
  pub within : (i : ℕ) → i < length starts → slice_index_or starts i 0 ≤ total
