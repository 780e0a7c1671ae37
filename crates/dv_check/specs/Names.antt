-- What the names of a text denote, and names that are declared twice or too often.
use Rattle.std.specs.Prelude.{ℕ, ◌==◌, Bool, true, false, if◌then◌else◌, slice_get, List, [], ◌∷◌, ◌++◌, map, take, Option, Some, None}
use Rattle.std.specs.List.{list_any}
use Rattle.dv_lex.specs.declared.error.Refusal.{Refusal}
use Rattle.dv_lex.specs.declared.error.RefusalNumber.{RefusalNumber}
use Rattle.dv_lex.specs.declared.error.RefusalNumber.TheVariants.{E17}
use Rattle.dv_syntax.specs.declared.tree.Name.{Name}
use Rattle.dv_syntax.specs.declared.tree.Part.{Part}
use Rattle.dv_syntax.specs.Trees.{ModelTree, AtomicModel, CoupledModel}
use Rattle.dv_check.specs.Limits.{greatest_names}

abbrev pub refusal : RefusalNumber → ℕ → Refusal
refusal number offset = record { number = number; offset = offset }

-- one refusal, or none
abbrev pub refusal_if : Bool → RefusalNumber → ℕ → List Refusal
refusal_if true number offset = refusal number offset ∷ []
refusal_if false number offset = []

-- the numbers of names
abbrev pub numbers_of : List Name → List ℕ
numbers_of names = map (λ (n : Name). n.number) names

-- the value of the first element of a list that has the number
unfoldable pub first_of : {X V : Type 0} → (X → ℕ) → (X → V) → List X → ℕ → Option V
first_of number value [] q = None
first_of number value (x ∷ xs) q = if number x == q then Some (value x) else first_of number value xs q

unfoldable pub among : List Name → ℕ → Bool
among names number = list_any (λ (n : Name). n.number == number) names

-- a set of numbers as a function: the empty one, and one with another number
unfoldable pub no_number : ℕ → Bool
no_number q = false

unfoldable pub with_number : (ℕ → Bool) → ℕ → ℕ → Bool
with_number set number q = if number == q then true else set q

-- the names whose numbers were seen before
abbrev pub repeats_after : (ℕ → Bool) → RefusalNumber → List Name → List Refusal
repeats_after seen number [] = []
repeats_after seen number (n ∷ names) = refusal_if (seen n.number) number n.offset ++ repeats_after (with_number seen n.number) number names

-- the names that occur before in the list
abbrev pub repeats : RefusalNumber → List Name → List Refusal
repeats number names = repeats_after no_number number names

abbrev pub excess_of : Option Name → List Refusal
excess_of None = []
excess_of (Some n) = refusal E17 n.offset ∷ []

-- the first name past a limit on their number
unfoldable pub excess_past : ℕ → List Name → List Refusal
excess_past limit names = excess_of (slice_get names limit)

-- the first name past the greatest number of names of a kind
abbrev pub excess : List Name → List Refusal
excess names = excess_past greatest_names names

-- the items within a limit
unfoldable pub within_limit : {A : Type 0} → ℕ → List A → List A
within_limit limit xs = take limit xs

abbrev pub name_of_model : ModelTree → Name
name_of_model (AtomicModel m) = m.name
name_of_model (CoupledModel m) = m.name

-- the first model of a name
abbrev pub model_named : ℕ → List ModelTree → Option ModelTree
model_named number [] = None
model_named number (m ∷ models) = if (name_of_model m).number == number then Some m else model_named number models

-- the first part of a name
abbrev pub part_named : ℕ → List Part → Option Part
part_named number [] = None
part_named number (p ∷ parts) = if p.name.number == number then Some p else part_named number parts

-- a part before others, unless its name was seen before
abbrev pub with_part_unless : Bool → Part → List Part → List Part
with_part_unless true p parts = parts
with_part_unless false p parts = p ∷ parts

-- the parts whose numbers were not seen before
abbrev pub first_parts_after : (ℕ → Bool) → List Part → List Part
first_parts_after seen [] = []
first_parts_after seen (p ∷ parts) =
    with_part_unless (seen p.name.number) p (first_parts_after (with_number seen p.name.number) parts)

-- the parts that count: the first of each name
abbrev pub first_parts : List Part → List Part
first_parts parts = first_parts_after no_number parts
