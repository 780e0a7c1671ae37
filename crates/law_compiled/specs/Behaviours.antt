-- The behaviour of an atomic model by its programs.
use Rattle.std.specs.Prelude.{ℕ, [], List, option_map, slice_get, Option, Some, None, Result, Ok}
use Rattle.dv_bag.specs.Arrivals.{Arrivals, nothing_arrived}
use Rattle.dv_bag.specs.Bag.{Counts}
use Rattle.dv_bag.specs.Outcome.{◌>>=◌}
use Rattle.dv_bag.specs.declared.fault.Fault.{Fault}
use Rattle.dv_bag.specs.declared.state.State.{State}
use Rattle.dv_bag.specs.declared.state.Effect.{Effect}
use Rattle.dv_devs.specs.Behaviour.{Behaviour, Change, state_by_goto}
use Rattle.dv_eval.specs.Meaning.{ticks_from}
use Rattle.dv_code.specs.Outcomes.{effect_by, number_by}
use Rattle.dv_code.specs.Valid.{Program}
use Rattle.dv_gen.specs.declared.model_code.PhaseCode.{PhaseCode}

-- the effect of a rule's program in the phase of a state; a state that fits is in a phase of its model
abbrev pub effect_in : Option PhaseCode → (PhaseCode → Program) → Arrivals → State → Result Effect Fault
effect_in None rule arrivals s = Ok (record { state = s; sent = []; goto = None })
effect_in (Some code) rule arrivals s = effect_by (rule code) arrivals s

-- what a program that may change the state gives
abbrev pub change_of : Result Effect Fault → Result Change Fault
change_of effect = effect >>= λ e. Ok (state_by_goto e.state e.goto)

-- the program of a confluent rule, if the phase has one
abbrev pub confluent_program : Option PhaseCode → Option Program
confluent_program None = None
confluent_program (Some code) = code.confluent

-- the program of a hold, unless it is forever
abbrev pub hold_program : Option PhaseCode → Option Program
hold_program None = None
hold_program (Some code) = code.hold

-- the ticks of a hold, or forever
abbrev pub ticks_by : Option Program → State → Result (Option ℕ) Fault
ticks_by None s = Ok None
ticks_by (Some p) s = number_by p nothing_arrived s >>= ticks_from

-- arrivals of these bags, with the ticks since the last transition
abbrev pub arriving : List Counts → ℕ → Arrivals
arriving bags elapsed = record { received = bags; elapsed = elapsed }

-- the behaviour of the programs of the phases, by the indices of the phases
abbrev pub behaviour_by : List PhaseCode → Behaviour
behaviour_by codes = record {
  output = λ s. effect_in (slice_get codes s.phase) (λ c. c.output) nothing_arrived s >>= λ e. Ok e.sent;
  internal = λ s. change_of (effect_in (slice_get codes s.phase) (λ c. c.internal) nothing_arrived s);
  external = λ elapsed bags s.
      change_of (effect_in (slice_get codes s.phase) (λ c. c.external) (arriving bags elapsed) s);
  confluent = λ bags s.
      option_map (λ p. change_of (effect_by p (arriving bags 0) s)) (confluent_program (slice_get codes s.phase));
  hold = λ s. ticks_by (hold_program (slice_get codes s.phase)) s;
}
