-- Inputs from outside: a list by ascending time. An input comes in at its time; a run reaches the inputs whose microstep is within its
-- limit, and passes the others.
use Rattle.std.specs.Prelude.{ℕ, zero, suc, ◌+◌, ◌≤◌, ◌≡◌, nat_eq, nat_lt, Bool, false, ◌&&◌, ◌||◌, if◌then◌else◌, List, [], ◌∷◌}
use Rattle.std.specs.Prelude.{Option, Some, None, option_map, slice_get, ℤ}
use Rattle.std.specs.List.{prefix_len}
use Rattle.std.specs.Ordering.{int_eq}
use Rattle.dv_time.specs.Time.{is_before, time_of}
use Rattle.dv_time.specs.declared.time.Time.{Time}
use Rattle.dv_time.specs.Limits.{greatest_tick}
use Rattle.dv_bag.specs.Bag.{Counts, with_copies}
use Rattle.dv_bag.specs.declared.inputs.Input.{Input}

-- the start of a tick
abbrev pub start_of : ℕ → Time
start_of tick = record { tick = tick; micro = 0 }

-- the time of the last input; 0.0 if there is none
abbrev pub last_time : List Input → Time
last_time [] = start_of 0
last_time (i ∷ []) = i.time
last_time (i ∷ j ∷ inputs) = last_time (j ∷ inputs)

-- no time is before this one or before that of the previous input, and no tick is above the greatest
abbrev pub IsFrom : Time → List Input → Type 0
IsFrom low [] = Unit {0}
IsFrom low (i ∷ inputs) = (is_before i.time low ≡ false) × (i.time.tick ≤ greatest_tick) × IsFrom i.time inputs

-- times are ascending, and no tick is above the greatest
abbrev pub IsByTime : List Input → Type 0
IsByTime inputs = IsFrom (start_of 0) inputs

-- whether an input is at a time
abbrev pub is_at : Time → Input → Bool
is_at t i = nat_eq i.time.tick t.tick && nat_eq i.time.micro t.micro

-- the values of the inputs at a time and a port, added to a bag
abbrev pub values_into : Time → ℕ → List Input → Counts → Counts
values_into t port [] b = b
values_into t port (i ∷ inputs) b = values_into t port inputs (if is_at t i && nat_eq i.port port then with_copies i.value 1 b else b)

abbrev pub values_at : Time → ℕ → List Input → Counts
values_at t port inputs = values_into t port inputs []

-- the bags of a number of ports at a time, from one port on
abbrev pub bags_from : ℕ → ℕ → List Input → Time → List Counts
bags_from port zero inputs t = []
bags_from port (suc ports) inputs t = values_at t port inputs ∷ bags_from (port + 1) ports inputs t

-- what comes in at a time: for each port the bag of the values of its inputs
abbrev pub bags_at : ℕ → List Input → Time → List Counts
bags_at ports inputs t = bags_from 0 ports inputs t

-- what comes in at a rank
abbrev pub inputs_at : ℕ → ℕ → List Input → ℕ → List Counts
inputs_at limit ports inputs n = bags_at ports inputs (time_of limit n)

-- whether a run passes an input on its way to a time: it is before the time, or its microstep is above the limit
abbrev pub is_passed : ℕ → Time → Input → Bool
is_passed limit t i = is_before i.time t || nat_lt limit i.time.micro

-- the number of inputs before the first that a run reaches at a time or later
abbrev pub inputs_before : ℕ → List Input → Time → ℕ
inputs_before limit inputs t = prefix_len (is_passed limit t) inputs

-- the time of the input at an index
abbrev pub time_at : List Input → ℕ → Option Time
time_at inputs index = option_map (λ i. i.time) (slice_get inputs index)

-- the first time of an input that a run reaches at a time or later
abbrev pub next_from : ℕ → List Input → Time → Option Time
next_from limit [] t = None
next_from limit (i ∷ inputs) t = if is_passed limit t i then next_from limit inputs t else Some i.time

-- whether an input is at a time and a port, with a value
abbrev pub is_of : Time → ℕ → ℤ → Input → Bool
is_of t port value i = is_at t i && nat_eq i.port port && int_eq i.value value
