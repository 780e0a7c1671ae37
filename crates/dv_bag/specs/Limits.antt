-- The limit on values. The constant of the code is this number.
use Rattle.std.specs.Prelude.{ℕ}

-- the most values that are sent in one output, arrive at one port at one instant, or are in a collection of a state
abbrev pub greatest_count : ℕ
greatest_count = 4096
