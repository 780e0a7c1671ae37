-- Small flat models, whose shares, packets and promises the definitions compute.
use Rattle.std.specs.Prelude.{ℕ, nat_eq, if◌then◌else◌, List, [], ◌∷◌, Option, Some, None, pos, ℤ}
use Rattle.dv_time.specs.declared.time.Time.{Time}
use Rattle.dv_devs.specs.Models.{cell, relay, tick}
use Rattle.dv_devs.specs.Rows.{component_until, counter, no_input, phase_alone}
use Rattle.dv_conservative.specs.Channels.{all_channels}
use Rattle.dv_conservative.specs.Events.{Event}
use Rattle.dv_conservative.specs.Flat.{Flat}
use Rattle.dv_conservative.specs.Links.{Link}
use Rattle.dv_conservative.specs.Process.{Packet, Refused, refusal_of}
use Rattle.dv_conservative.specs.World.{Job, share_of}

-- a link from the first output to the first input
abbrev pub link_to : ℕ → ℕ → ℕ → Link
link_to from to copies = record { from = from; from_port = 0; to = to; to_port = 0; copies = copies }

-- a clock that reaches a cell by two ways, and whose output is the root's
abbrev pub twice_linked : Flat
twice_linked = record {
  members = record { number = 0; ports = 0; behaviour = tick; start = component_until (counter 0 (pos 0)) (Some 10) }
      ∷ record { number = 1; ports = 1; behaviour = cell; start = component_until (counter 0 (pos 0)) (Some 10) } ∷ [];
  links = link_to 0 1 2 ∷ [];
  entrances = [];
  exits = link_to 0 0 1 ∷ [];
  outputs = 1;
}

-- two relays in a ring, whose holds are 0, of which the first also receives the root's input
abbrev pub relays : Flat
relays = record {
  members = record { number = 0; ports = 1; behaviour = relay 0; start = component_until (phase_alone 0) None }
      ∷ record { number = 1; ports = 1; behaviour = relay 0; start = component_until (phase_alone 0) None } ∷ [];
  links = link_to 0 1 1 ∷ link_to 1 0 1 ∷ [];
  entrances = link_to 0 0 1 ∷ [];
  exits = [];
  outputs = 0;
}

-- the first component in a process, and the others in another
abbrev pub first_alone : ℕ → ℕ
first_alone k = if nat_eq k 0 then 0 else 1

-- two components, each in a process of its own
abbrev pub in_two : (limit horizon : ℕ) → Flat → (ℕ → Option ℕ) → Job
in_two limit horizon f responses = record {
  limit = limit;
  horizon = horizon;
  flat = f;
  outside = no_input;
  processes = 2;
  owner = first_alone;
  channels = all_channels first_alone f.links 2;
  responses = responses;
}

abbrev pub clock_and_cell : Job
clock_and_cell = in_two 1 10 twice_linked (λ p. None)

abbrev pub two_relays : Job
two_relays = in_two 3 4 relays (λ p. Some 0)

abbrev pub nothing_received : ℕ → List Packet
nothing_received l = []

-- an event for the second component, one copy of it, and a packet
abbrev pub event_at : Time → ℕ → ℤ → Event
event_at t component value = record { time = t; component = component; port = 0; value = value; copies = 1 }

abbrev pub packet : ℕ → Time → Time → List Event → Packet
packet link from upto events = record { link = link; from = from; upto = upto; events = events }

-- how the second relay's process, which has received nothing, or one packet, answers another
abbrev pub answer_to : Packet → Option Refused
answer_to p = refusal_of (share_of two_relays 1) nothing_received p

abbrev pub received_one : Packet → ℕ → List Packet
received_one p l = if nat_eq l p.link then p ∷ [] else []
