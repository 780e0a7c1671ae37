-- The ranges of a run's values.
use Rattle.std.specs.Prelude.{ℕ, ◌≤◌}
use Rattle.dv_time.specs.Limits.{greatest_tick, greatest_limit}

-- the last tick of a run, and its greatest microstep
pub record AreInRange (horizon microsteps : ℕ) : Type 0 where
  pub tick : horizon ≤ greatest_tick
  pub at_least_one : 1 ≤ microsteps
  pub limit : microsteps ≤ greatest_limit
