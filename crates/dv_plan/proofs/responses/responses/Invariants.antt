use Rattle.std.proofs.Common.{◌≡◌, ◌<◌, ℕ, None, drop, get_or, length, map}
use Rattle.dv_time.specs.Time.{earlier}
use Rattle.dv_partition.specs.Groups.{owner_of}
use Rattle.dv_conservative.specs.Responses.{least_response}
use Rattle.dv_bag.specs.Responses.{ticks_of}
use Rattle.dv_plan.proofs.responses.responses.Given as goal

abbrev pub invariant-loop-component : goal.invariant-loop-component
invariant-loop-component l = record {
  long : length (map ticks_of l.found.items) ≡ l.groups.processes;
  least : (p : ℕ) → p < l.groups.processes →
      earlier (get_or (map ticks_of l.found.items) p None)
      (least_response (owner_of l.groups) p l.component (map ticks_of (drop l.component l.components)))
      ≡ least_response (owner_of l.groups) p 0 (map ticks_of l.components);
}
