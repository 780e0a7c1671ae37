-- The texts of names, and of the paths of components.
use Rattle.std.specs.Prelude.{ℕ, List, [], ◌∷◌, ◌++◌, map, slice_get, unwrap_or}

-- a name of a list; there is none past its end
abbrev pub name_at : List (List ℕ) → ℕ → List ℕ
name_at names k = unwrap_or (slice_get names k) []

-- the texts of names
abbrev pub texts_of : List (List ℕ) → List ℕ → List (List ℕ)
texts_of names numbers = map (name_at names) numbers

-- names, each behind a dot
abbrev pub behind_dots : List (List ℕ) → List ℕ
behind_dots [] = []
behind_dots (x ∷ xs) = (46 ∷ x) ++ behind_dots xs

-- the names of the parts, joined by dots
abbrev pub with_dots : List (List ℕ) → List ℕ
with_dots [] = []
with_dots (x ∷ []) = x
with_dots (x ∷ y ∷ xs) = x ++ (46 ∷ with_dots (y ∷ xs))
