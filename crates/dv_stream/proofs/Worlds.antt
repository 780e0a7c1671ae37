-- The clocks of the processes of a world.
use Rattle.std.proofs.Common.{◌<◌, ◌≤◌, List, map, refl, arith}
use Rattle.dv_time.specs.Time.{end_of, rank}
use Rattle.dv_time.specs.declared.time.Time.{Time}
use Rattle.dv_conservative.specs.World.{Job, World}
use Rattle.dv_core.specs.ProcessState.{ProcessState}
use Rattle.dv_core.specs.Worlds.{IsTrueToModel, kept_by, shown}
use Rattle.dv_core.specs.declared.state.WorldState.{WorldState}
use Rattle.dv_core.proofs.Lookups.{some_at}
use Rattle.dv_plan.specs.Clocks.{least_time}
use Rattle.dv_plan.specs.Runs.{AreClocksOf}
use Rattle.dv_plan.proofs.LeastClock.{least_below, least_time_rank}
use Rattle.dv_plan.proofs.Running.{clocks_of_world}

module _ {J P : Type 0} (means : J → Job) (state : P → ProcessState) where
  abbrev pub clocks_in : WorldState J P → List Time
  clocks_in w = map (λ x. (state x).position.clock) w.processes.items

  pub are_clocks_in : (w : WorldState J P) → IsTrueToModel (means w.job) (kept_by state w)
      → AreClocksOf (means w.job) (shown means state w) (clocks_in w)
  are_clocks_in w holds =
      clocks_of_world state (means w.job) (kept_by state w) w.processes.items refl holds (clocks_in w) refl

-- the least of the clocks is not past the end
pub least_within : (job : Job) (w : World) (times : List Time) → AreClocksOf job w times → 0 < job.processes
    → rank job.limit (least_time times) ≤ end_of job.limit job.horizon
least_within job w times are some =
    let count = are.count in
    let first = some_at times 0 (omega (arith, some, count)) in
    let low = least_below job.limit times 0 first.0 first.1 in
    let high = (are.within 0 first.0 first.1).1 in
    let at = least_time_rank job.limit times (omega (arith, some, count)) (λ p t e. (are.within p t e).0) in
    omega (arith, low, high, at)
