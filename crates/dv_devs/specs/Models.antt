-- Small models, written out as behaviours, whose traces the definitions compute.
use Rattle.std.specs.Prelude.{ℕ, true, false, nat_eq, if◌then◌else◌, List, [], ◌∷◌, Some, None, Ok, Err, ℤ, pos, ◌+ℤ◌}
use Rattle.std.specs.Ordering.{int_eq}
use Rattle.dv_bag.specs.Bag.{Counts, bag_at, sum_of, union}
use Rattle.dv_devs.specs.Behaviour.{Behaviour, Change}
use Rattle.dv_devs.specs.Network.{Network, emissions_at, first_bags, other_bags}
use Rattle.dv_devs.specs.Rows.{component_until, counter, inputs_at, one, phase_alone}
use Rattle.dv_bag.specs.declared.fault.Fault.TheVariants.{Negative, Range}
use Rattle.dv_bag.specs.declared.state.State.{State}
use Rattle.dv_bag.specs.declared.state.Datum.{Datum}
use Rattle.dv_bag.specs.declared.state.Datum.TheVariants as datum

abbrev pub number_in : List Datum → ℤ
number_in (datum.Number n ∷ rest) = n
number_in other = pos 0

-- a state after which no goto ran, and one after a goto
abbrev pub same_phase : State → Change
same_phase s = record { state = s; goes = false }

abbrev pub new_phase : ℕ → State → Change
new_phase p s = record { state = record { phase = p; variables = s.variables }; goes = true }

-- a clock: phase 0 holds 5 ticks and sends its number; at 3 it goes to phase 1, which holds forever
abbrev pub tick : Behaviour
tick = record {
  output = λ s. Ok (one (number_in s.variables) ∷ []);
  internal = λ s. Ok (
      if int_eq (number_in s.variables) (pos 3)
      then new_phase 1 s
      else same_phase (counter 0 (number_in s.variables +ℤ pos 1))
      );
  external = λ elapsed bags s. Ok (same_phase s);
  confluent = λ bags s. None;
  hold = λ s. Ok (if nat_eq s.phase 0 then Some 5 else None);
}

-- a spin: its hold is always 0
abbrev pub spin : Behaviour
spin = record {
  output = λ s. Ok [];
  internal = λ s. Ok (same_phase s);
  external = λ elapsed bags s. Ok (same_phase s);
  confluent = λ bags s. None;
  hold = λ s. Ok (Some 0);
}

-- a cell: it sends its number every 5 ticks and adds 1; it adds what it receives, and its hold continues
abbrev pub cell : Behaviour
cell = record {
  output = λ s. Ok (one (number_in s.variables) ∷ []);
  internal = λ s. Ok (same_phase (counter 0 (number_in s.variables +ℤ pos 1)));
  external = λ elapsed bags s. Ok (same_phase (counter 0 (number_in s.variables +ℤ sum_of (bag_at bags 0))));
  confluent = λ bags s. None;
  hold = λ s. Ok (Some 5);
}

-- a stopwatch: it adds 100 every 10 ticks, and the elapsed time at an input, which leaves its hold as it is
abbrev pub stopwatch : Behaviour
stopwatch = record {
  output = λ s. Ok (one (number_in s.variables) ∷ []);
  internal = λ s. Ok (same_phase (counter 0 (number_in s.variables +ℤ pos 100)));
  external = λ elapsed bags s. Ok (same_phase (counter 0 (number_in s.variables +ℤ pos elapsed)));
  confluent = λ bags s. None;
  hold = λ s. Ok (Some 10);
}

-- a relay: an input takes it from phase 0, which holds forever, to phase 1; after a delay it sends 1 and goes back
abbrev pub relay : ℕ → Behaviour
relay delay = record {
  output = λ s. Ok ((if nat_eq s.phase 1 then one (pos 1) else []) ∷ []);
  internal = λ s. Ok (new_phase 0 s);
  external = λ elapsed bags s. Ok (if nat_eq s.phase 0 then new_phase 1 s else same_phase s);
  confluent = λ bags s. None;
  hold = λ s. Ok (if nat_eq s.phase 0 then None else Some delay);
}

-- its internal rule goes to phase 1, whose hold faults, and its external rule goes back to phase 0
abbrev pub faulty_hold : Behaviour
faulty_hold = record {
  output = λ s. Ok [];
  internal = λ s. Ok (new_phase 1 s);
  external = λ elapsed bags s. Ok (new_phase 0 s);
  confluent = λ bags s. None;
  hold = λ s. if nat_eq s.phase 1 then Err Negative else Ok (Some 2);
}

-- its internal rule goes to phase 1, whose hold is 0, and its external rule goes back to phase 0
abbrev pub short_hold : Behaviour
short_hold = record {
  output = λ s. Ok [];
  internal = λ s. Ok (new_phase 1 s);
  external = λ elapsed bags s. Ok (new_phase 0 s);
  confluent = λ bags s. None;
  hold = λ s. Ok (if nat_eq s.phase 1 then Some 0 else Some 2);
}

-- a confluent rule without a goto, beside rules that fault
abbrev pub confluent_alone : Behaviour
confluent_alone = record {
  output = λ s. Ok [];
  internal = λ s. Err Range;
  external = λ elapsed bags s. Err Range;
  confluent = λ bags s. Some (Ok (same_phase s));
  hold = λ s. Ok (Some 2);
}

-- one component that waits for a rank, whose input is the root's and whose output goes nowhere
abbrev pub single : Behaviour → State → ℕ → Network (List Counts)
single b s next = record {
  numbers = 0 ∷ [];
  behaviours = b ∷ [];
  start = component_until s (Some next) ∷ [];
  arrives = λ sent input. input ∷ [];
  leaves = λ sent. [];
}

abbrev pub fed_cell : Network (List Counts)
fed_cell = single cell (counter 0 (pos 0)) 10

abbrev pub fed_stopwatch : Network (List Counts)
fed_stopwatch = single stopwatch (counter 0 (pos 0)) 20

-- one clock, whose output is the root's
abbrev pub clock : Network (List Counts)
clock = record {
  numbers = 0 ∷ [];
  behaviours = tick ∷ [];
  start = component_until (counter 0 (pos 0)) (Some 10) ∷ [];
  arrives = λ sent input. [] ∷ [];
  leaves = λ sent. first_bags sent;
}

-- a clock that reaches a cell by two ways
abbrev pub twice : Network (List Counts)
twice = record {
  numbers = 0 ∷ 1 ∷ [];
  behaviours = tick ∷ cell ∷ [];
  start = component_until (counter 0 (pos 0)) (Some 10) ∷ component_until (counter 0 (pos 0)) (Some 10) ∷ [];
  arrives = λ sent input. [] ∷ (union (bag_at (first_bags sent) 0) (bag_at (first_bags sent) 0) ∷ []) ∷ [];
  leaves = λ sent. [];
}

-- two relays in a ring, of which the first also receives the root's input
abbrev pub ring : ℕ → Network (List Counts)
ring delay = record {
  numbers = 0 ∷ 1 ∷ [];
  behaviours = relay delay ∷ relay delay ∷ [];
  start = component_until (phase_alone 0) None ∷ component_until (phase_alone 0) None ∷ [];
  arrives = λ sent input. (union (bag_at input 0) (bag_at (first_bags (other_bags sent)) 0) ∷ []) ∷ (bag_at (first_bags sent) 0 ∷ []) ∷ [];
  leaves = λ sent. [];
}

-- a value for the first relay at 2.0 and at 12.0, under a microstep limit of 1
abbrev pub relay_inputs : ℕ → List Counts
relay_inputs = inputs_at 4 24 (one (pos 7))

-- the second relay alone: what comes from outside is what the first one sends it
abbrev pub second_relay : ℕ → Network (List Counts)
second_relay delay = record {
  numbers = 1 ∷ [];
  behaviours = relay delay ∷ [];
  start = component_until (phase_alone 0) None ∷ [];
  arrives = λ sent input. input ∷ [];
  leaves = λ sent. [];
}

abbrev pub sent_by_first : ℕ → ℕ → (ℕ → List Counts) → ℕ → List Counts
sent_by_first limit delay inputs n = bag_at (first_bags (emissions_at limit (ring delay) inputs n)) 0 ∷ []
