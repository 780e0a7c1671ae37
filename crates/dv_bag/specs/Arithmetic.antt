-- Arithmetic of the language: exact results, or a fault.
use Rattle.std.specs.Prelude.{ℤ, pos, neg_ℤ, ◌^◌, Bool, not, ◌&&◌, if◌then◌else◌, int_lt, int_div, int_rem, Option, Some, None}
use Rattle.std.specs.Prelude.{Result, Ok, Err}
use Rattle.std.specs.Ordering.{int_eq}
use Rattle.dv_bag.specs.declared.value.Value.{Value}
use Rattle.dv_bag.specs.declared.value.Value.TheVariants.{Number}
use Rattle.dv_bag.specs.declared.fault.Fault.{Fault}
use Rattle.dv_bag.specs.declared.fault.Fault.TheVariants.{Overflow, Divide, Empty}

-- within -2^63..2^63-1
abbrev pub is_kept : ℤ → Bool
is_kept n = not (int_lt n (neg_ℤ (pos (2 ^ 63)))) && int_lt n (pos (2 ^ 63))

abbrev pub number_or_overflow : ℤ → Result Value Fault
number_or_overflow n = if is_kept n then Ok (Number n) else Err Overflow

-- rounded towards 0
abbrev pub quotient : ℤ → ℤ → Result Value Fault
quotient a b = if int_eq b (pos 0) then Err Divide else number_or_overflow (int_div a b)

-- the remainder of the division that rounds towards 0
abbrev pub remainder : ℤ → ℤ → Result Value Fault
remainder a b = if int_eq b (pos 0) then Err Divide else Ok (Number (int_rem a b))

abbrev pub number_or_empty : Option ℤ → Result Value Fault
number_or_empty None = Err Empty
number_or_empty (Some n) = Ok (Number n)
