-- The limits on a run. The constants of the code are these numbers.
use Rattle.std.specs.Prelude.{ℕ}

-- the greatest tick of a horizon or of an input
abbrev pub greatest_tick : ℕ
greatest_tick = 1000000000000000

-- the greatest microstep limit of a run
abbrev pub greatest_limit : ℕ
greatest_limit = 1000
