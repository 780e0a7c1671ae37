-- Abbreviations for worked rows.
use Rattle.std.specs.Prelude.{ℕ, false, nat_eq, if◌then◌else◌, List, [], ◌∷◌, Option, ℤ}
use Rattle.dv_bag.specs.Bag.{Counts}
use Rattle.dv_bag.specs.Part.{PartOf}
use Rattle.dv_devs.specs.Behaviour.{Component}
use Rattle.dv_devs.specs.Network.{Network, trace_before}
use Rattle.dv_time.specs.Time.{end_of}
use Rattle.dv_bag.specs.declared.fault.Fault.{Fault}
use Rattle.dv_bag.specs.declared.state.State.{State}
use Rattle.dv_bag.specs.declared.state.Datum.TheVariants as datum
use Rattle.dv_bag.specs.declared.entry.Entry.{Entry}
use Rattle.dv_bag.specs.declared.entry.Outer.{Outer}
use Rattle.dv_bag.specs.declared.entry.Kind.{Kind}
use Rattle.dv_bag.specs.declared.entry.What.TheVariants as what
use Rattle.dv_time.specs.declared.time.Time.{Time}

-- a state with one number, and one with no variables
abbrev pub counter : ℕ → ℤ → State
counter phase n = record { phase = phase; variables = datum.Number n ∷ [] }

abbrev pub phase_alone : ℕ → State
phase_alone p = record { phase = p; variables = [] }

-- a component that starts at a state and waits for a rank
abbrev pub component_until : State → Option ℕ → Component
component_until s next = record { state = s; last = 0; next = next; quiet = false }

-- copies of a value, and one copy
abbrev pub copies : ℤ → ℕ → Counts
copies v n = (v, n) ∷ []

abbrev pub one : ℤ → Counts
one v = copies v 1

abbrev pub no_input : ℕ → List Counts
no_input n = []

-- a bag at one rank, and the same bag at two
abbrev pub input_at : ℕ → Counts → ℕ → List Counts
input_at rank bag n = if nat_eq n rank then bag ∷ [] else []

abbrev pub inputs_at : ℕ → ℕ → Counts → ℕ → List Counts
inputs_at rank other bag n = if nat_eq n rank then bag ∷ [] else input_at other bag n

abbrev pub at : ℕ → ℕ → Time
at tick micro = record { tick = tick; micro = micro }

-- the entry of a transition, and that of a fault
abbrev pub transition : Time → ℕ → Kind → State → List Counts → Entry
transition t k kind s sent = record { time = t; component = k; what = what.Transition kind s; sent = sent }

abbrev pub fault : Time → ℕ → Fault → List Counts → Entry
fault t k f sent = record { time = t; component = k; what = what.Fault f; sent = sent }

-- what leaves at the first port
abbrev pub outer_line : Time → ℤ → Outer
outer_line t v = record { time = t; port = 0; values = one v }

-- the trace to a horizon, under a microstep limit
abbrev pub trace_to : ℕ → ℕ → Network (List Counts) → (ℕ → List Counts) → PartOf
trace_to limit horizon net inputs = trace_before limit net inputs (end_of limit horizon)
