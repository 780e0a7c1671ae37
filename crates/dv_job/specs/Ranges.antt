-- The ranges of a run's options.
use Rattle.std.specs.Prelude.{◌≡◌, ℕ, ◌≤◌, Option, None, Some, IsSome}
use Rattle.dv_time.specs.Limits.{greatest_tick, greatest_limit}
use Rattle.dv_job.specs.Limits.{most_workers, greatest_capacity}
use Rattle.dv_job.specs.declared.options.Driver.{Driver}
use Rattle.dv_job.specs.declared.options.Driver.TheVariants.{Rounds, Workers}

-- ---- What drives a run

-- the driver for the given workers or rounds; none if both are given
abbrev pub driver_of : (workers rounds : Option ℕ) → Option Driver
driver_of None rounds = Some (Rounds rounds)
driver_of (Some count) None = Some (Workers count)
driver_of (Some count) (Some most) = None

-- there is a driver, and the number of its workers is in its range
abbrev pub IsDriver : Option Driver → Type 0
IsDriver driver = IsSome driver × ((count : ℕ) → driver ≡ Some (Workers count) → (1 ≤ count) × (count ≤ most_workers))

-- how many workers there are: one if the driver is rounds
abbrev pub workers_in : Driver → ℕ
workers_in (Rounds most) = 1
workers_in (Workers count) = count

-- ---- All options

pub record AreInRange (h l : ℕ) (d : Option Driver) (c : ℕ) : Type 0 where
  pub horizon : h ≤ greatest_tick
  pub some_microstep : 1 ≤ l
  pub limit : l ≤ greatest_limit
  pub driver : IsDriver d
  pub some_capacity : 1 ≤ c
  pub capacity : c ≤ greatest_capacity
