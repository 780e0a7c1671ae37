-- What events bring, and what arrives at each time.
use Rattle.std.specs.Prelude.{◌≡◌, ℕ, ◌<◌, Bool, true, ◌&&◌, nat_le, nat_lt, if◌then◌else◌, List, [], ◌∷◌, length, map, Option, Some, None}
use Rattle.std.specs.List.{All}
use Rattle.std.specs.Option.{IfSome}
use Rattle.std.specs.BTreeMap.{BTreeMap, get}
use Rattle.std.specs.FinMap as finite
use Rattle.std.specs.Prelude.{Vec}
use Rattle.dv_time.specs.Time.{time_cmp}
use Rattle.dv_time.specs.declared.time.Time.{Time}
use Rattle.dv_agenda.specs.Waits.{same_time}
use Rattle.dv_bag.specs.declared.inputs.Input.{Input}
use Rattle.dv_proc.specs.declared.packet.Event.{Event}
use Rattle.dv_share.specs.declared.link.Delivery.{Delivery}

-- whether an event has copies, and is at a time of the run
abbrev pub brings : ℕ → Event → Bool
brings limit e = nat_lt 0 e.copies && nat_le e.time.micro limit

-- the delivery of an event
abbrev pub delivery_in : Event → Delivery
delivery_in e = record { component = e.component; port = e.port; value = e.value; copies = e.copies }

-- the delivery of an input to the outside
abbrev pub entered_by : Input → Delivery
entered_by i = record { component = 0; port = i.port; value = i.value; copies = 1 }

-- what events bring at a time
abbrev pub coming_at : Time → List Event → List Delivery
coming_at t [] = []
coming_at t (e ∷ es) = if same_time e.time t then delivery_in e ∷ coming_at t es else coming_at t es

-- all of some events are at a time
abbrev pub AreAt : Time → List Event → Type 0
AreAt time es = All (λ (e : Event). same_time e.time time ≡ true) es

-- at one time they bring all of their deliveries, and at no other time anything
abbrev pub BringOnlyAt : Time → List Event → Type 0
BringOnlyAt time es = (t : Time) → coming_at t es ≡ (if same_time time t then map delivery_in es else [])

-- arrivals by time, in the order in which they came
abbrev pub Arrivals : Type 0
Arrivals = finite.FinMap time_cmp (List Delivery)

abbrev pub or_nothing : Option (List Delivery) → List Delivery
or_nothing None = []
or_nothing (Some found) = found

-- what arrives at a time
abbrev pub arrivals_at : Time → Arrivals → List Delivery
arrivals_at t m = or_nothing (finite.get m t)

-- the same for a map of the code
abbrev pub items_of : {Z : Type 0} → Option (Vec Delivery Z) → List Delivery
items_of None = []
items_of (Some v) = v.items

abbrev pub items_at : {Z : Type 0} → Time → BTreeMap Time (Vec Delivery Z) → List Delivery
items_at t m = items_of (get time_cmp m t)

-- something arrives at each time that has an entry
abbrev pub AllFilled : {Z : Type 0} → BTreeMap Time (Vec Delivery Z) → Type 0
AllFilled m = (t : Time) → IfSome (get time_cmp m t) (λ v. 0 < length v.items)

-- the arrivals in a map of the code
abbrev pub arrivals_of : {Z : Type 0} → BTreeMap Time (Vec Delivery Z) → Arrivals
arrivals_of m = finite.from_entries (map (λ e. (e.0, e.1.items)) m.entries)
