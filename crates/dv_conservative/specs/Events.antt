-- Events: deliveries with their times, in the order in which packets carry them.
use Rattle.std.specs.Prelude.{◌≡◌, ℕ, zero, suc, ◌+◌, ◌-◌, ◌^◌, ◌<◌, Bool, ◌&&◌, nat_eq, if◌then◌else◌, List, [], ◌∷◌, ◌++◌, map, ℤ}
use Rattle.std.specs.Ordering.{int_cmp, match_ordering, nat_cmp, ordering_then}
use Rattle.std.specs.declared.cmp.Ordering.{Ordering}
use Rattle.std.specs.declared.cmp.Ordering.TheVariants.{Less}
use Rattle.dv_time.specs.Time.{IsOfRun, time_cmp, time_of}
use Rattle.dv_time.specs.declared.time.Time.{Time}
use Rattle.dv_bag.specs.Bag.{capped}
use Rattle.dv_conservative.specs.Links.{Delivery, delivered}

-- copies of a value for an input port of a component, at a time
pub record Event : Type 0 where
  pub time : Time
  pub component : ℕ
  pub port : ℕ
  pub value : ℤ
  pub copies : ℕ

abbrev pub delivery_of : Event → Delivery
delivery_of e = record { component = e.component; port = e.port; value = e.value; copies = e.copies }

abbrev pub event_of : Time → Delivery → Event
event_of t d = record { time = t; component = d.component; port = d.port; value = d.value; copies = d.copies }

-- by component, then by port, then by value
abbrev pub delivery_cmp : Delivery → Delivery → Ordering
delivery_cmp a b =
    ordering_then (nat_cmp a.component b.component) (ordering_then (nat_cmp a.port b.port) (int_cmp a.value b.value))

-- by time first
abbrev pub event_cmp : Event → Event → Ordering
event_cmp a b = ordering_then (time_cmp a.time b.time) (delivery_cmp (delivery_of a) (delivery_of b))

-- every event comes after the one before: the order is by time, component, port and value, and none comes twice
abbrev pub AreInOrderAfter : Event → List Event → Type 0
AreInOrderAfter a [] = Unit {0}
AreInOrderAfter a (e ∷ es) = (event_cmp a e ≡ Less) × AreInOrderAfter e es

abbrev pub AreInOrder : List Event → Type 0
AreInOrder [] = Unit {0}
AreInOrder (e ∷ es) = AreInOrderAfter e es

-- every event has a copy, and no more than are kept
abbrev pub AllHaveCopies : List Event → Type 0
AllHaveCopies [] = Unit {0}
AllHaveCopies (e ∷ es) = (0 < e.copies) × (e.copies < 2 ^ 64) × AllHaveCopies es

-- with one more delivery, which joins that of its port and value, if there is one
abbrev pub with_delivery : Delivery → List Delivery → List Delivery
with_delivery d [] = record { component = d.component; port = d.port; value = d.value; copies = capped d.copies } ∷ []
with_delivery d (e ∷ es) =
    match_ordering (delivery_cmp d e)
    (record { component = d.component; port = d.port; value = d.value; copies = capped d.copies } ∷ e ∷ es)
    (record { component = e.component; port = e.port; value = e.value; copies = capped (d.copies + e.copies) } ∷ es)
    (e ∷ with_delivery d es)

-- deliveries in order: those of one port and value are joined, and none has zero copies
abbrev pub in_order : List Delivery → List Delivery
in_order [] = []
in_order (d ∷ ds) = if nat_eq d.copies 0 then in_order ds else with_delivery d (in_order ds)

-- whether a time is this one
abbrev pub same_time : Time → Time → Bool
same_time t u = nat_eq t.tick u.tick && nat_eq t.micro u.micro

-- what events deliver at a rank
abbrev pub deliveries_at : ℕ → List Event → ℕ → List Delivery
deliveries_at limit [] n = []
deliveries_at limit (e ∷ es) n =
    if same_time e.time (time_of limit n) then delivery_of e ∷ deliveries_at limit es n else deliveries_at limit es n

-- the events of a number of ranks from one on
abbrev pub events_from : ℕ → (ℕ → List Delivery) → ℕ → ℕ → List Event
events_from limit stream n zero = []
events_from limit stream n (suc count) =
    map (event_of (time_of limit n)) (in_order (stream n)) ++ events_from limit stream (n + 1) count

-- the events of a window
abbrev pub events_between : ℕ → (ℕ → List Delivery) → ℕ → ℕ → List Event
events_between limit stream from upto = events_from limit stream from (upto - from)

-- the times of events are times of the run
abbrev pub AllOfRun : ℕ → List Event → Type 0
AllOfRun limit [] = Unit {0}
AllOfRun limit (e ∷ es) = IsOfRun limit e.time × AllOfRun limit es

-- at every rank two lists make the same bags
abbrev pub DeliverTheSame : ℕ → List Event → List Event → Type 0
DeliverTheSame limit es fs =
    (n k port : ℕ) → delivered k port (deliveries_at limit es n) [] ≡ delivered k port (deliveries_at limit fs n) []
