use Rattle.std.proofs.Common.{◌≡◌, drop}
use Rattle.dv_plan.specs.Clocks.{least_after, least_time}
use Rattle.dv_plan.proofs.least.least_clock.Given as goal

abbrev pub invariant-loop-clock : goal.invariant-loop-clock
invariant-loop-clock l = least_after l.least (drop l.clock-index l.clock-items) ≡ least_time l.clocks
