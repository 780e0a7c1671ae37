use Rattle.std.proofs.Common.{◌≡◌, ℕ, map}
use Rattle.std.specs.List.{All}
use Rattle.dv_time.specs.Time.{earlier, next_rank}
use Rattle.dv_devs.specs.NextTimes.{least_next}
use Rattle.dv_react.specs.declared.running.Running.{Running}
use Rattle.dv_react.specs.Components.{IsNextOfRun, IsWaitOfRun, component_of}
use Rattle.dv_plain.proofs.Steps.{components_from}
use Rattle.dv_plain.proofs.run.next_time.Given as goal

-- the least so far and the least of the rest
abbrev pub invariant-loop-component : goal.invariant-loop-component
invariant-loop-component l = record {
  least : (limit : ℕ) → All (λ (r : Running). IsWaitOfRun limit r.wait) l.components →
      earlier (next_rank limit l.next) (least_next (components_from limit l.component-index l.components)) ≡ least_next
      (map (component_of limit) l.components);
  of_run : (limit : ℕ) → All (λ (r : Running). IsWaitOfRun limit r.wait) l.components → IsNextOfRun limit l.next;
}
