-- The digits of a number.
use Rattle.std.specs.Prelude.{ℕ, ◌+◌, ◌/◌, ◌%◌, List, [], ◌∷◌}

-- the last four digits of a number
abbrev pub last_four : ℕ → List ℕ
last_four n =
    (48 + n % 10000 / 100 / 10) ∷ (48 + n % 10000 / 100 % 10)
    ∷ (48 + n % 10000 % 100 / 10) ∷ (48 + n % 10000 % 100 % 10) ∷ []
