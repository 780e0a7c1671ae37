-- Components that react together: one instant, the run over all instants, and its trace.
-- Closure under coupling: a network is itself a model of Parallel DEVS, whose state is the list of its components.
use Rattle.std.specs.Prelude.{ℕ, zero, suc, ◌+◌, nat_eq, if◌then◌else◌, List, [], ◌∷◌, ◌++◌, map, Option, Some, None, Result, Ok, Err}
use Rattle.dv_time.specs.Time.{time_of}
use Rattle.dv_bag.specs.Bag.{Counts, size}
use Rattle.dv_devs.specs.Behaviour.{Behaviour, Component, Reaction, reaction, emission}
use Rattle.dv_bag.specs.Part.{PartOf, nothing, joined}
use Rattle.dv_bag.specs.declared.fault.Fault.{Fault}
use Rattle.dv_bag.specs.declared.entry.Entry.{Entry}
use Rattle.dv_bag.specs.declared.entry.Outer.{Outer}
use Rattle.dv_bag.specs.declared.entry.What.{What}

-- Components with their numbers in the model and their behaviours, and routing. A whole model's numbers are 0, 1, 2 and so on. I is what
-- comes from outside at one instant: the root's input bags, or the events of packets. What each component sends is listed by component and
-- port, and so is what each receives. What leaves depends only on what is sent, since no input of a model is coupled to its output.
pub record Network (I : Type 0) : Type 0 where
  pub numbers : List ℕ
  pub behaviours : List Behaviour
  pub start : List Component
  pub arrives : List (List Counts) → I → List (List Counts)
  pub leaves : List (List Counts) → List Counts

-- a component that is quiet, or whose output faults, sends nothing
abbrev pub sent_by : Component → Result (List Counts) Fault → List Counts
sent_by c (Ok bags) = if c.quiet then [] else bags
sent_by c (Err f) = []

-- what each component sends at an instant
abbrev pub emissions : List Behaviour → ℕ → List Component → List (List Counts)
emissions [] now cs = []
emissions (b ∷ bs) now [] = []
emissions (b ∷ bs) now (c ∷ cs) = sent_by c (emission b now c) ∷ emissions bs now cs

-- the bags of the first component, and those of the others
abbrev pub first_bags : List (List Counts) → List Counts
first_bags [] = []
first_bags (bags ∷ rest) = bags

abbrev pub other_bags : List (List Counts) → List (List Counts)
other_bags [] = []
other_bags (bags ∷ rest) = rest

-- what happens to each component at an instant
abbrev pub reactions : ℕ → List Behaviour → ℕ → List Component → List (List Counts) → List Reaction
reactions limit [] now cs received = []
reactions limit (b ∷ bs) now [] received = []
reactions limit (b ∷ bs) now (c ∷ cs) received =
    reaction limit b now c (first_bags received) ∷ reactions limit bs now cs (other_bags received)

-- one instant: the imminent components emit, the values are routed, and each component reacts
abbrev pub instant : {I : Type 0} → ℕ → Network I → ℕ → I → List Component → List Reaction
instant limit net now input cs = reactions limit net.behaviours now cs (net.arrives (emissions net.behaviours now cs) input)

-- the components after an instant
abbrev pub components_after : {I : Type 0} → ℕ → Network I → ℕ → I → List Component → List Component
components_after limit net now input cs = map (λ (r : Reaction). r.component) (instant limit net now input cs)

-- the components when every instant before this rank is over
abbrev pub components_at : {I : Type 0} → ℕ → Network I → (ℕ → I) → ℕ → List Component
components_at limit net inputs zero = net.start
components_at limit net inputs (suc n) = components_after limit net n (inputs n) (components_at limit net inputs n)

-- what the components send at a rank
abbrev pub emissions_at : {I : Type 0} → ℕ → Network I → (ℕ → I) → ℕ → List (List Counts)
emissions_at limit net inputs n = emissions net.behaviours n (components_at limit net inputs n)

-- the entry of a component, if there is one
abbrev pub entry_of : ℕ → ℕ → ℕ → Option (What × List Counts) → List Entry
entry_of limit now k None = []
entry_of limit now k (Some event) = record { time = time_of limit now; component = k; what = event.0; sent = event.1 } ∷ []

-- the entries of an instant, by the numbers of the components
abbrev pub entries_by : ℕ → ℕ → List ℕ → List Reaction → List Entry
entries_by limit now [] rs = []
entries_by limit now (k ∷ ks) [] = []
entries_by limit now (k ∷ ks) (r ∷ rs) = entry_of limit now k r.event ++ entries_by limit now ks rs

-- the line of what leaves at a port; a port with no values has none
abbrev pub line_of : ℕ → ℕ → ℕ → Counts → List Outer
line_of limit now port b = if nat_eq (size b) 0 then [] else record { time = time_of limit now; port = port; values = b } ∷ []

-- what leaves at an instant, by port number from one on
abbrev pub outer_from : ℕ → ℕ → ℕ → List Counts → List Outer
outer_from limit now port [] = []
outer_from limit now port (b ∷ bs) = line_of limit now port b ++ outer_from limit now (port + 1) bs

-- what an instant adds to the trace
abbrev pub part_of_instant : {I : Type 0} → ℕ → Network I → ℕ → I → List Component → PartOf
part_of_instant limit net now input cs = record {
  entries = entries_by limit now net.numbers (instant limit net now input cs);
  outer = outer_from limit now 0 (net.leaves (emissions net.behaviours now cs));
}

-- what the instant at a rank adds to the trace of a run
abbrev pub trace_at : {I : Type 0} → ℕ → Network I → (ℕ → I) → ℕ → PartOf
trace_at limit net inputs n = part_of_instant limit net n (inputs n) (components_at limit net inputs n)

-- the parts of all ranks before one, one after the other
abbrev pub all_before : (ℕ → PartOf) → ℕ → PartOf
all_before parts zero = nothing
all_before parts (suc n) = joined (all_before parts n) (parts n)

-- the trace of all instants before this rank
abbrev pub trace_before : {I : Type 0} → ℕ → Network I → (ℕ → I) → ℕ → PartOf
trace_before limit net inputs n = all_before (trace_at limit net inputs) n
