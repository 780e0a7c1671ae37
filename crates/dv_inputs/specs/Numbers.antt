-- The meaning of a field: a time, a port, a value.
use Rattle.std.specs.Prelude.{ℕ, ◌+◌, ◌^◌, ◌==◌, Bool, ◌&&◌, if◌then◌else◌, List, [], ◌∷◌, length, take, drop, nat_lt, ℤ, pos, neg_ℤ}
use Rattle.std.specs.Prelude.{Option, Some, None, option_map, position, bytes_eq}
use Rattle.std.specs.Char.{is_ascii_digit}
use Rattle.std.specs.List.{list_all}
use Rattle.std.specs.Str.Parse.{digits_value}
use Rattle.dv_time.specs.Limits.{greatest_limit, greatest_tick}
use Rattle.dv_time.specs.declared.time.Time.{Time}
use Rattle.dv_bag.specs.Inputs.{start_of}

-- one decimal digit or more
abbrev pub is_numeral : List ℕ → Bool
is_numeral bytes = nat_lt 0 (length bytes) && list_all is_ascii_digit bytes

-- the value of decimal digits, if it is below a bound
abbrev pub number_below : ℕ → List ℕ → Option ℕ
number_below bound bytes = if is_numeral bytes && nat_lt (digits_value 10 bytes) bound then Some (digits_value 10 bytes) else None

-- decimal digits, up to the greatest tick
abbrev pub tick_in : List ℕ → Option ℕ
tick_in field = number_below (greatest_tick + 1) field

-- decimal digits, up to the greatest microstep limit
abbrev pub micro_in : List ℕ → Option ℕ
micro_in field = number_below (greatest_limit + 1) field

-- a dot
abbrev pub is_dot : ℕ → Bool
is_dot b = b == 46

-- a time of a tick and a microstep
abbrev pub time_of_parts : Option ℕ → Option ℕ → Option Time
time_of_parts (Some tick) (Some micro) = Some (record { tick = tick; micro = micro })
time_of_parts (Some tick) None = None
time_of_parts None micro = None

-- the time in a field whose first dot is at an offset: without a dot a tick, which means its start, else a tick before the dot and a
-- microstep behind it
abbrev pub time_by_dot : List ℕ → Option ℕ → Option Time
time_by_dot field None = option_map start_of (tick_in field)
time_by_dot field (Some dot) = time_of_parts (tick_in (take dot field)) (micro_in (drop (dot + 1) field))

-- `T` or `T.K`
abbrev pub time_in : List ℕ → Option Time
time_in field = time_by_dot field (position is_dot field)

-- the number of the port of this name
abbrev pub port_in : List (List ℕ) → List ℕ → Option ℕ
port_in ports field = position (bytes_eq field) ports

-- decimal digits, or `-` and decimal digits, from -2^63 to 2^63 - 1
abbrev pub value_in : List ℕ → Option ℤ
value_in [] = None
value_in (b ∷ bytes) =
    if b == 45
    then option_map (λ n. neg_ℤ (pos n)) (number_below (2 ^ 63 + 1) bytes)
    else option_map pos (number_below (2 ^ 63) (b ∷ bytes))
