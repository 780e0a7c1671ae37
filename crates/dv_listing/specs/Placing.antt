-- The parts of a listing that remain to be written.
use Rattle.std.specs.Prelude.{ℕ, Bool, false, if◌then◌else◌, List, [], ◌∷◌, ◌++◌}

-- an empty line, except before the first model
abbrev pub gap : Bool → List ℕ
gap is_first = if is_first then [] else 10 ∷ []

-- texts, each with an empty line before it except the first of all
abbrev pub texts_from : Bool → List (List ℕ) → List ℕ
texts_from is_first [] = []
texts_from is_first (x ∷ xs) = gap is_first ++ (x ++ texts_from false xs)
