-- The limits on how a run is carried out. The constants of the code are these numbers.
use Rattle.std.specs.Prelude.{ℕ}

-- the most workers of a run
abbrev pub most_workers : ℕ
most_workers = 256

-- the most packets that a link between two processes holds
abbrev pub greatest_capacity : ℕ
greatest_capacity = 1024
