-- One process: its share of the model, the packets that it received, its local run, and how long it knows what it sends.
use Rattle.std.specs.Prelude.{◌≡◌, ℕ, zero, suc, ◌+◌, ◌-◌, ◌^◌, ◌<◌, ◌≤◌, min, Bool, true, false, not, ◌&&◌, ◌||◌, nat_eq}
use Rattle.std.specs.Prelude.{nat_lt, nat_le, if◌then◌else◌, IsTrue, List, [], ◌∷◌, ◌++◌, Option, Some, None}
use Rattle.std.specs.List.{list_any, list_all}
use Rattle.std.specs.Ordering.{is_lt}
use Rattle.dv_time.specs.Time.{end_of, rank}
use Rattle.dv_time.specs.declared.time.Time.{Time}
use Rattle.dv_bag.specs.Bag.{Counts, is_number}
use Rattle.dv_bag.specs.Part.{PartOf}
use Rattle.dv_devs.specs.Behaviour.{Component}
use Rattle.dv_devs.specs.Idle.{no_values, nothing_sent}
use Rattle.dv_devs.specs.Network.{components_at, trace_before}
use Rattle.dv_conservative.specs.Events.{Event, deliveries_at, event_cmp, events_between, in_order, same_time}
use Rattle.dv_conservative.specs.Flat.{Flat, Member, network, sends_by}
use Rattle.dv_conservative.specs.Links.{Delivery, Link}
use Rattle.dv_conservative.specs.Promise.{foreseen}

-- all events of a window on a link: not before its first time, and before its last
pub record Packet : Type 0 where
  pub link : ℕ
  pub from : Time
  pub upto : Time
  pub events : List Event

-- a link that leads to another process: its number, and the links between components of which it is made
pub record Outgoing : Type 0 where
  pub number : ℕ
  pub links : List Link

-- What a process has of the model: its components with the links between them and from and to the outside, what comes from outside at each
-- rank, the numbers of the incoming links, the outgoing links, and a response of its components.
pub record Share : Type 0 where
  pub limit : ℕ
  pub horizon : ℕ
  pub flat : Flat
  pub outside : ℕ → List Counts
  pub incoming : List ℕ
  pub outgoing : List Outgoing
  pub response : Option ℕ

-- the rank of the end: the first past the horizon
abbrev pub end_rank : Share → ℕ
end_rank s = end_of s.limit s.horizon

-- a time that a clock or a promise may have: its microstep is within the limit, and it is not past the end
abbrev pub IsWithin : Share → Time → Type 0
IsWithin s t = (t.micro ≤ s.limit) × (rank s.limit t ≤ end_rank s)

abbrev pub first_time : Time
first_time = record { tick = 0; micro = 0 }

-- the channel clock: the end of the window of the last packet
abbrev pub clock_after : Time → List Packet → Time
clock_after start [] = start
clock_after start (p ∷ ps) = clock_after p.upto ps

abbrev pub channel_clock : List Packet → Time
channel_clock ps = clock_after first_time ps

-- the rank of the least channel clock, or the end if that is less or there is no incoming link
abbrev pub least_of : ℕ → ℕ → List ℕ → (ℕ → List Packet) → ℕ
least_of limit bound [] received = bound
least_of limit bound (l ∷ ls) received = min (rank limit (channel_clock (received l))) (least_of limit bound ls received)

abbrev pub least_clock : Share → (ℕ → List Packet) → ℕ
least_clock s received = least_of s.limit (end_rank s) s.incoming received

-- the events of packets
abbrev pub events_in : List Packet → List Event
events_in [] = []
events_in (p ∷ ps) = p.events ++ events_in ps

abbrev pub events_by : (ℕ → List Packet) → ℕ → List Event
events_by received l = events_in (received l)

-- the events of several links
abbrev pub all_events : List ℕ → (ℕ → List Event) → List Event
all_events [] events = []
all_events (l ∷ ls) events = events l ++ all_events ls events

-- The local run: the components of the share alone, which receive what comes from outside and these events, by link.
abbrev pub inputs_by : Share → (ℕ → List Event) → ℕ → List Counts × List Delivery
inputs_by s events n = (s.outside n, deliveries_at s.limit (all_events s.incoming events) n)

abbrev pub components_by : Share → (ℕ → List Event) → ℕ → List Component
components_by s events n = components_at s.limit (network s.flat) (inputs_by s events) n

abbrev pub part_by : Share → (ℕ → List Event) → ℕ → PartOf
part_by s events n = trace_before s.limit (network s.flat) (inputs_by s events) n

-- what it sends on a link at a rank
abbrev pub sent_on : Share → (ℕ → List Event) → Outgoing → ℕ → List Delivery
sent_on s events out n = sends_by s.limit s.flat out.links (inputs_by s events) n

-- the packet of a window: the events that the local run sends there
abbrev pub packet_of : Share → (ℕ → List Event) → Outgoing → Time → Time → Packet
packet_of s events out from upto = record {
  link = out.number;
  from = from;
  upto = upto;
  events = events_between s.limit (sent_on s events out) (rank s.limit from) (rank s.limit upto);
}

-- events that may still come: not before a time, of numbers of the language, with counts that are kept
abbrev pub MayCome : ℕ → Time → List Event → Type 0
MayCome limit t [] = Unit {0}
MayCome limit t (e ∷ es) =
    (rank limit t ≤ rank limit e.time) × IsTrue (is_number e.value) × (e.copies < 2 ^ 64) × MayCome limit t es

-- on each of several links, not before its channel clock
abbrev pub AllMayCome : ℕ → (ℕ → List Packet) → List ℕ → (ℕ → List Event) → Type 0
AllMayCome limit received [] further = Unit {0}
AllMayCome limit received (l ∷ ls) further =
    MayCome limit (channel_clock (received l)) (further l) × AllMayCome limit received ls further

-- what was received, and further events after it
abbrev pub and_further : (ℕ → List Packet) → (ℕ → List Event) → ℕ → List Event
and_further received further l = events_by received l ++ further l

-- A time is settled for an outgoing link: what is sent on it before is the same for all events that still come.
abbrev pub IsSettled : Share → (ℕ → List Packet) → Outgoing → Time → Type 0
IsSettled s received out u =
    (further : ℕ → List Event) → AllMayCome s.limit received s.incoming further
    → (n : ℕ) → n < rank s.limit u → n < end_rank s
    → in_order (sent_on s (and_further received further) out n) ≡ in_order (sent_on s (events_by received) out n)

-- whether anything comes at a rank, if nothing is sent in the share
abbrev pub brings : Share → (ℕ → List Event) → ℕ → Bool
brings s events n = not (no_values ((network s.flat).arrives (nothing_sent (network s.flat)) (inputs_by s events n)))

-- the first of a number of ranks from one on that satisfies a test; if none does, the rank after them
abbrev pub first_from : (ℕ → Bool) → ℕ → ℕ → ℕ
first_from test n zero = n
first_from test n (suc count) = if test n then n else first_from test (n + 1) count

-- The rank before which a process at a rank knows what comes: the least of the end, its channel clocks and the inputs that it has and has
-- not committed.
abbrev pub known_until : Share → (ℕ → List Packet) → ℕ → ℕ
known_until s received k = first_from (brings s (events_by received)) k (least_clock s received - k)

abbrev pub at_most : ℕ → Option ℕ → ℕ
at_most bound None = bound
at_most bound (Some n) = min bound n

-- The promise of a process at a rank, which is never past the end: after its next time if that is now, and else its next time or an answer
-- to the first input, whichever is sooner.
abbrev pub promise : Share → (ℕ → List Packet) → ℕ → ℕ
promise s received k =
    at_most (end_rank s)
    (foreseen s.limit k (components_by s (events_by received) k) (known_until s received k) s.response)

-- why a packet is refused: there is no such link; another window is next; its window is empty or not within the run; an event is not of it
pub data Refused : Type 0 where
  P1 : Refused
  P2 : Refused
  P3 : Refused
  P4 : Refused

-- whether there is such a port of a component
abbrev pub is_port_of : List Member → ℕ → ℕ → Bool
is_port_of [] k port = false
is_port_of (m ∷ ms) k port = (nat_eq m.number k && nat_lt port m.ports) || is_port_of ms k port

abbrev pub is_window : Share → Packet → Bool
is_window s p =
    nat_lt (rank s.limit p.from) (rank s.limit p.upto)
    && (nat_le (rank s.limit p.upto) (end_rank s) && nat_le p.upto.micro s.limit)

-- whether an event is within the window of its packet, and for a port of the share
abbrev pub is_event_of : Share → Packet → Event → Bool
is_event_of s p e =
    nat_le e.time.micro s.limit
    && (nat_le (rank s.limit p.from) (rank s.limit e.time)
    && (nat_lt (rank s.limit e.time) (rank s.limit p.upto) && is_port_of s.flat.members e.component e.port))

abbrev pub are_in_order_after : Event → List Event → Bool
are_in_order_after a [] = true
are_in_order_after a (e ∷ es) = is_lt (event_cmp a e) && are_in_order_after e es

abbrev pub are_in_order : List Event → Bool
are_in_order [] = true
are_in_order (e ∷ es) = are_in_order_after e es

-- the first test that a packet fails, if it fails one
abbrev pub refusal_of : Share → (ℕ → List Packet) → Packet → Option Refused
refusal_of s received p =
    if not (list_any (nat_eq p.link) s.incoming) then Some P1
    else if not (same_time p.from (channel_clock (received p.link))) then Some P2
    else if not (is_window s p) then Some P4
    else if not (are_in_order p.events && list_all (is_event_of s p) p.events) then Some P3
    else None

-- what was received, with one more packet on its link
abbrev pub with_packet : (ℕ → List Packet) → Packet → ℕ → List Packet
with_packet received p l = if nat_eq l p.link then received l ++ p ∷ [] else received l
