-- The limit on processes. The constant of the code is this number.
use Rattle.std.specs.Prelude.{ℕ}

-- the most processes of a partition
abbrev pub greatest_processes : ℕ
greatest_processes = 256
