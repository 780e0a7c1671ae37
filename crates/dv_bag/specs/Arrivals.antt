-- What an instant brings to an atomic model.
use Rattle.std.specs.Prelude.{ℕ, ◌≤◌, List, []}
use Rattle.dv_bag.specs.Bag.{Counts, bag_at, total}
use Rattle.dv_bag.specs.Limits.{greatest_count}

-- the values that have arrived, by input port, and the ticks since the last transition
pub record Arrivals : Type 0 where
  pub received : List Counts
  pub elapsed : ℕ

-- at every port at most the greatest count of values
abbrev pub AreFew : List Counts → Type 0
AreFew bags = (port : ℕ) → total (bag_at bags port) ≤ greatest_count

abbrev pub nothing_arrived : Arrivals
nothing_arrived = record { received = []; elapsed = 0 }
