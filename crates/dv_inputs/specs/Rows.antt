-- Words for worked rows.
use Rattle.std.specs.Prelude.{ℕ, List, ℤ, codes, ◌++◌, ◌∷◌, []}
use Rattle.dv_bag.specs.Inputs.{start_of}
use Rattle.dv_bag.specs.declared.inputs.Input.{Input}
use Rattle.dv_inputs.specs.declared.error.InputRefusalNumber.{InputRefusalNumber}
use Rattle.dv_inputs.specs.declared.error.InputRefusal.{InputRefusal}

-- an input at the start of a tick
abbrev pub input : ℕ → ℕ → ℤ → Input
input tick port value = record { time = start_of tick; port = port; value = value }

-- an input at a time
abbrev pub input_at : ℕ → ℕ → ℕ → ℤ → Input
input_at tick micro port value = record { time = record { tick = tick; micro = micro }; port = port; value = value }

-- a refusal on a line
abbrev pub refusal : InputRefusalNumber → ℕ → InputRefusal
refusal number line = record { number = number; line = line }

-- the text of two lines, the first ended by this
abbrev pub two_lines : List ℕ → List ℕ → List ℕ → List ℕ
two_lines first end second = first ++ (end ++ second)

-- a line feed
abbrev pub feed : List ℕ
feed = 10 ∷ []

-- a carriage return and a line feed
abbrev pub return_feed : List ℕ
return_feed = 13 ∷ 10 ∷ []

-- ports x and y
abbrev pub x_and_y : List (List ℕ)
x_and_y = codes "x" ∷ codes "y" ∷ []
