use Rattle.std.proofs.Common.{◌-◌, ◌≤◌, length, take}
use Rattle.dv_local.specs.Arrivals.{AreAt}
use Rattle.dv_local.proofs.by_time.first_run.Given as goal

abbrev pub invariant-loop-count : goal.invariant-loop-count
invariant-loop-count l = record {
  within : l.count ≤ length l.events;
  together : AreAt l.time (take l.count l.events);
}

abbrev pub decreases-loop-count : goal.decreases-loop-count
decreases-loop-count l = length l.events - l.count
