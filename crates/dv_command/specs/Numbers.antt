-- Numbers in decimal digits.
use Rattle.std.specs.Prelude.{ℕ, Bool, ◌&&◌, if◌then◌else◌, List, length, nat_le, nat_lt, Option, Some, None}
use Rattle.std.specs.Char.{is_ascii_digit}
use Rattle.std.specs.List.{list_all}
use Rattle.std.specs.Str.Parse.{digits_value}

-- one decimal digit or more
abbrev pub is_numeral : List ℕ → Bool
is_numeral bytes = nat_lt 0 (length bytes) && list_all is_ascii_digit bytes

-- the number in decimal digits, if it is from the least to the greatest
abbrev pub number_in : ℕ → ℕ → List ℕ → Option ℕ
number_in least greatest bytes =
    if is_numeral bytes && (nat_le least (digits_value 10 bytes) && nat_le (digits_value 10 bytes) greatest)
    then Some (digits_value 10 bytes)
    else None
