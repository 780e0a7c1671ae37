-- Inputs that cannot be distinguished.
use Rattle.std.specs.Prelude.{◌≡◌, ℕ, ◌<◌, List}
use Rattle.dv_bag.specs.Bag.{Counts}
use Rattle.dv_devs.specs.Network.{Network}

-- for everything that is sent, both inputs bring the same
abbrev pub ArriveAlike : {I : Type 0} → Network I → I → I → Type 0
ArriveAlike net x y = (sent : List (List Counts)) → net.arrives sent x ≡ net.arrives sent y

-- so do the inputs of each rank before one
abbrev pub ArriveAlikeBefore : {I : Type 0} → Network I → (i j : ℕ → I) → ℕ → Type 0
ArriveAlikeBefore net i j n = (k : ℕ) → k < n → ArriveAlike net (i k) (j k)
