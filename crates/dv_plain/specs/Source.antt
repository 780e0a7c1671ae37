-- The resultant of a text: the network of its components, whose behaviours are the meanings of their rules.
use Rattle.std.specs.Prelude.{ℕ, true, false, List, length, map, option_map, Option, Some, None, Result, Ok, Err}
use Rattle.std.specs.List.{range_with_len}
use Rattle.dv_time.specs.Time.{end_of}
use Rattle.dv_syntax.specs.Trees.{AtomicTree, FileTree, Statements}
use Rattle.dv_syntax.specs.declared.tree.RuleSort.{RuleSort}
use Rattle.dv_syntax.specs.declared.tree.RuleSort.TheVariants.{Output, Internal, External, Confluent}
use Rattle.dv_bag.specs.Bag.{Counts}
use Rattle.dv_bag.specs.Inputs.{inputs_at}
use Rattle.dv_bag.specs.declared.inputs.Input.{Input}
use Rattle.dv_devs.specs.Behaviour.{Behaviour, Change, Component, end_of_hold, state_by_goto}
use Rattle.dv_bag.specs.Outcome.{◌>>=◌}
use Rattle.dv_devs.specs.Network.{Network, trace_before}
use Rattle.dv_bag.specs.Part.{PartOf}
use Rattle.dv_bag.specs.declared.fault.Fault.{Fault}
use Rattle.dv_bag.specs.declared.state.State.{State}
use Rattle.dv_bag.specs.declared.state.Effect.{Effect}
use Rattle.dv_eval.specs.Scope.{scope_of, start_state, rule_body, rule_of, hold_ticks, phase_name}
use Rattle.dv_bag.specs.Arrivals.{Arrivals, nothing_arrived}
use Rattle.dv_eval.specs.Meaning.{effect_of, hold_of}
use Rattle.dv_tree.specs.Instances.{Instance, instances, root_inputs}
use Rattle.dv_tree.specs.Routing.{arrives, leaves}

-- the effect of a model's rule for the phase of a state
abbrev pub rule_effect : AtomicTree → RuleSort → Arrivals → State → Result Effect Fault
rule_effect m sort arrivals s = effect_of (scope_of m) (rule_body sort (phase_name (scope_of m) s.phase) m.rules) arrivals s

-- what a rule that changes the state leaves
abbrev pub change_by : AtomicTree → Statements → Arrivals → State → Result Change Fault
change_by m body arrivals s = effect_of (scope_of m) body arrivals s >>= λ e. Ok (state_by_goto e.state e.goto)

-- The behaviour of an atomic model of the text. A missing output, internal or external rule is an empty one; a phase without a
-- confluent rule has the default confluent transition.
abbrev pub behaviour_of : AtomicTree → Behaviour
behaviour_of m = record {
  output = λ s. rule_effect m Output nothing_arrived s >>= λ e. Ok e.sent;
  internal = λ s. rule_effect m Internal nothing_arrived s >>= λ e. Ok (state_by_goto e.state e.goto);
  external = λ elapsed bags s.
      rule_effect m External (record { received = bags; elapsed = elapsed }) s >>= λ e. Ok (state_by_goto e.state e.goto);
  confluent = λ bags s.
      option_map (λ body. change_by m body (record { received = bags; elapsed = 0 }) s)
      (rule_of Confluent (phase_name (scope_of m) s.phase) m.rules);
  hold = λ s. hold_of (scope_of m) (hold_ticks (phase_name (scope_of m) s.phase) m.holds) s;
}

-- when the hold of a state that begins now runs out
abbrev pub hold_end : ℕ → Behaviour → ℕ → State → Result (Option ℕ) Fault
hold_end limit b now s = b.hold s >>= end_of_hold limit now

-- a component at 0.0, by the end of its start hold; a checked text has no start hold that faults
abbrev pub first_component : State → Result (Option ℕ) Fault → Component
first_component s (Ok next) = record { state = s; last = 0; next = next; quiet = false }
first_component s (Err f) = record { state = s; last = 0; next = None; quiet = true }

-- the component of a model at 0.0
abbrev pub start_of : ℕ → AtomicTree → Component
start_of limit m = first_component (start_state m) (hold_end limit (behaviour_of m) 0 (start_state m))

-- the network of a text
abbrev pub network_of : ℕ → FileTree → Network (List Counts)
network_of limit f = record {
  numbers = range_with_len 0 (length (instances f));
  behaviours = map (λ (i : Instance). behaviour_of i.model) (instances f);
  start = map (λ (i : Instance). start_of limit i.model) (instances f);
  arrives = arrives f;
  leaves = leaves f;
}

-- what comes from outside at each rank
abbrev pub outside : FileTree → ℕ → List Input → ℕ → List Counts
outside f limit inputs n = inputs_at limit (length (root_inputs f)) inputs n

-- the trace of the resultant of a text with these inputs, to a horizon, under a microstep limit
abbrev pub trace_of : FileTree → List Input → (horizon limit : ℕ) → PartOf
trace_of f inputs horizon limit = trace_before limit (network_of limit f) (outside f limit inputs) (end_of limit horizon)
