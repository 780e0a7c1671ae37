-- The table of names.
use Rattle.std.specs.Prelude.{ℕ, Bool, not, List, [], ◌∷◌, ◌++◌, filter, bytes_eq, if◌then◌else◌}
use Rattle.std.specs.List.{list_any, position_or_len}

-- each text once, where it first appears
abbrev pub first_appearances : List (List ℕ) → List (List ℕ)
first_appearances [] = []
first_appearances (text ∷ texts) = text ∷ filter (λ other. not (bytes_eq text other)) (first_appearances texts)

-- whether the name is in the table
abbrev pub has_name : List (List ℕ) → List ℕ → Bool
has_name names text = list_any (bytes_eq text) names

-- the table with the name at its end, if it is new
abbrev pub with_name : List (List ℕ) → List ℕ → List (List ℕ)
with_name names text = if has_name names text then names else names ++ text ∷ []

-- the number of a name is its index in the table
abbrev pub number_of : List (List ℕ) → List ℕ → ℕ
number_of names text = position_or_len (bytes_eq text) names
