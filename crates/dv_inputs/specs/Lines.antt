-- How the text of inputs is divided into lines, and a line into fields.
use Rattle.std.specs.Prelude.{ℕ, ◌==◌, Bool, true, ◌||◌, if◌then◌else◌, List, [], ◌∷◌, length, filter, nat_lt}
use Rattle.std.specs.List.{list_all, onto_first, slice_split}

-- space, tab
abbrev pub is_blank : ℕ → Bool
is_blank b = b == 32 || b == 9

-- the lines of a text, without their line feeds; the last may have none
abbrev pub lines_of : List ℕ → List (List ℕ)
lines_of [] = []
lines_of (b ∷ bytes) = if b == 10 then [] ∷ lines_of bytes else onto_first b (lines_of bytes)

-- a line without one carriage return at its end, if there is one
abbrev pub without_return : List ℕ → List ℕ
without_return [] = []
without_return (b ∷ []) = if b == 13 then [] else b ∷ []
without_return (b ∷ c ∷ bytes) = b ∷ without_return (c ∷ bytes)

-- empty, beginning with `#`, or only blanks
abbrev pub is_passed_over : List ℕ → Bool
is_passed_over [] = true
is_passed_over (b ∷ bytes) = b == 35 || list_all is_blank (b ∷ bytes)

-- the fields of a line: what is between its blanks
abbrev pub fields_of : List ℕ → List (List ℕ)
fields_of line = filter (λ field. nat_lt 0 (length field)) (slice_split is_blank line)
