-- Atomic models, and what happens to one component at one instant.
-- Parallel DEVS is that of Chow and Zeigler (1994) and of Zeigler, Praehofer and Kim (Theory of Modeling and Simulation, 2000);
-- the hold that continues, the default confluent transition in whole ticks, the faults and the microstep limit are this project's.
use Rattle.std.specs.Prelude.{ℕ, ◌-◌, Bool, true, false, not, ◌||◌, ◌&&◌, nat_eq, nat_le, if◌then◌else◌, List, [], Option, Some}
use Rattle.std.specs.Prelude.{None, Result, Ok, Err}
use Rattle.std.specs.List.{list_all}
use Rattle.dv_time.specs.Time.{after, rank, tick_of, time_of}
use Rattle.dv_time.specs.declared.time.Time.{Time}
use Rattle.dv_time.specs.declared.time.Microsteps.{Microsteps as NoMicrostep}
use Rattle.dv_bag.specs.Bag.{Counts, size}
use Rattle.dv_bag.specs.Limits.{greatest_count}
use Rattle.dv_bag.specs.Outcome.{◌>>=◌}
use Rattle.dv_bag.specs.declared.fault.Fault.{Fault}
use Rattle.dv_bag.specs.declared.fault.Fault.TheVariants.{Microsteps, Flood}
use Rattle.dv_bag.specs.declared.state.State.{State}
use Rattle.dv_bag.specs.declared.entry.Kind.{Kind}
use Rattle.dv_bag.specs.declared.entry.Kind.TheVariants.{Internal, External, Confluent}
use Rattle.dv_bag.specs.declared.entry.What.{What}
use Rattle.dv_bag.specs.declared.entry.What.TheVariants as what

-- what a rule that may change the state gives: the state, and whether a goto ran
pub record Change : Type 0 where
  pub state : State
  pub goes : Bool

-- what a rule leaves of a state: the last goto that ran sets the phase
abbrev pub state_by_goto : State → Option ℕ → Change
state_by_goto s None = record { state = s; goes = false }
state_by_goto s (Some phase) = record { state = record { phase = phase; variables = s.variables }; goes = true }

-- An atomic model as functions: its output function, its transitions and its time advance. Bags are listed by port. A hold is a number of
-- ticks, or forever. A phase without a confluent rule has None.
pub record Behaviour : Type 0 where
  pub output : State → Result (List Counts) Fault
  pub internal : State → Result Change Fault
  pub external : (elapsed : ℕ) → List Counts → State → Result Change Fault
  pub confluent : List Counts → State → Option (Result Change Fault)
  pub hold : State → Result (Option ℕ) Fault

-- A state, the tick of the last transition, and the rank of the next one, if there is one. A component that had a fault is quiet: it has no
-- next time and ignores what it receives.
pub record Component : Type 0 where
  pub state : State
  pub last : ℕ
  pub next : Option ℕ
  pub quiet : Bool

-- the entry of an instant, if there is one: what happened and what was sent; and the component after it
pub record Reaction : Type 0 where
  pub event : Option (What × List Counts)
  pub component : Component

-- the hold after a transition: what remains of the one before, or a new one
pub data Hold : Type 0 where
  Continues : Hold
  Begins : (ticks : Option ℕ) → Hold

-- a state, and the hold of its phase, which begins
abbrev pub state_with_hold : Behaviour → State → Result (State × Hold) Fault
state_with_hold b s = b.hold s >>= λ ticks. Ok (s, Begins ticks)

-- the internal rule, and the hold of the phase reached
abbrev pub internal_of : Behaviour → State → Result (State × Hold) Fault
internal_of b s = b.internal s >>= λ m. state_with_hold b m.state

-- the external rule; the hold continues if no goto ran
abbrev pub external_of : Behaviour → ℕ → List Counts → State × Hold → Result (State × Hold) Fault
external_of b elapsed bags before =
    b.external elapsed bags before.0 >>= λ m. if m.goes then state_with_hold b m.state else Ok (m.state, before.1)

-- the confluent rule; by default the internal rule and its hold, then the external rule with an elapsed time of 0
abbrev pub confluent_of : Behaviour → List Counts → State → Option (Result Change Fault) → Result (State × Hold) Fault
confluent_of b bags s None = internal_of b s >>= external_of b 0 bags
confluent_of b bags s (Some rule) = rule >>= λ m. state_with_hold b m.state

-- whether a next time is this rank
abbrev pub is_at : ℕ → Option ℕ → Bool
is_at now None = false
is_at now (Some next) = nat_eq next now

-- imminent: its hold ends now
abbrev pub is_imminent : ℕ → Component → Bool
is_imminent now c = is_at now c.next

-- no values at any port
abbrev pub all_empty : List Counts → Bool
all_empty bags = list_all (λ b. nat_eq (size b) 0) bags

-- at no port more than 4,096 values
abbrev pub are_few : List Counts → Bool
are_few bags = list_all (λ b. nat_le (size b) greatest_count) bags

-- the bags, or a flood
abbrev pub bags_or_flood : List Counts → Result (List Counts) Fault
bags_or_flood bags = if are_few bags then Ok bags else Err Flood

-- the output function of a component that is imminent; it reads only the state
abbrev pub emission : Behaviour → ℕ → Component → Result (List Counts) Fault
emission b now c = if is_imminent now c then b.output c.state else Ok []

-- imminent with no input: internal; imminent with inputs: confluent; else external
abbrev pub kind_of : ℕ → Component → List Counts → Kind
kind_of now c bags = if is_imminent now c then (if all_empty bags then Internal else Confluent) else External

-- the transition of that kind: the state after it, and what becomes of the hold
abbrev pub transition_of : ℕ → Behaviour → ℕ → Component → List Counts → Result (State × Hold) Fault
transition_of limit b now c bags =
    if is_imminent now c
    then (if all_empty bags then internal_of b c.state else confluent_of b bags c.state (b.confluent bags c.state))
    else external_of b (tick_of limit now - c.last) bags (c.state, Continues)

-- the rank of the end of a hold, or the fault of too many microsteps
abbrev pub rank_or_fault : ℕ → Result Time NoMicrostep → Result (Option ℕ) Fault
rank_or_fault limit (Ok t) = Ok (Some (rank limit t))
rank_or_fault limit (Err e) = Err Microsteps

-- when a hold that begins now ends
abbrev pub end_of_hold : ℕ → ℕ → Option ℕ → Result (Option ℕ) Fault
end_of_hold limit now None = Ok None
end_of_hold limit now (Some ticks) = rank_or_fault limit (after limit (time_of limit now) ticks)

-- the next time after a transition
abbrev pub next_of : ℕ → ℕ → Option ℕ → Hold → Result (Option ℕ) Fault
next_of limit now next Continues = Ok next
next_of limit now next (Begins ticks) = end_of_hold limit now ticks

-- the reaction whose transition gave a state and a next time, or a fault, which makes the component quiet for good
abbrev pub reaction_with : ℕ → Component → Kind → List Counts → Result (State × Option ℕ) Fault → Reaction
reaction_with tick c kind sent (Err f) = record {
  event = Some (what.Fault f, sent);
  component = record { state = c.state; last = c.last; next = None; quiet = true };
}
reaction_with tick c kind sent (Ok r) = record {
  event = Some (what.Transition kind r.0, sent);
  component = record { state = r.0; last = tick; next = r.1; quiet = false };
}

-- The reaction after the output function. The order of tests: the output, the flood of what arrived, the transition with its hold, the
-- microsteps. A fault in the output sends nothing; before a later fault what was sent remains sent.
abbrev pub reaction_after_output : ℕ → Behaviour → ℕ → Component → List Counts → Result (List Counts) Fault → Reaction
reaction_after_output limit b now c bags (Err f) = reaction_with (tick_of limit now) c (kind_of now c bags) [] (Err f)
reaction_after_output limit b now c bags (Ok sent) =
    reaction_with (tick_of limit now) c (kind_of now c bags) sent
    (bags_or_flood bags >>= λ _.
    transition_of limit b now c bags >>= λ m.
    next_of limit now c.next m.1 >>= λ next.
    Ok (m.0, next))

-- What happens to one component at one instant. If it is quiet, or is not imminent and receives no values, only its elapsed time grows.
abbrev pub reaction : ℕ → Behaviour → ℕ → Component → List Counts → Reaction
reaction limit b now c bags =
    if not c.quiet && (is_imminent now c || not (all_empty bags))
    then reaction_after_output limit b now c bags (emission b now c)
    else record { event = None; component = c }
