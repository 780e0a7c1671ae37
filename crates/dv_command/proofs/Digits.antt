-- How digits read as a number.
use Rattle.std.proofs.Common.{◌≡◌, inl, inr, ℕ, ◌<◌, ◌^◌, ◌&&◌, true, false, List, length, nat_le, nat_lt, None, Result}
use Rattle.std.proofs.Common.{Err, OkIff, refl, subst, arith, rules}
use Rattle.std.specs.Char.{is_ascii_digit}
use Rattle.std.specs.List.{list_all}
use Rattle.std.specs.Str.Parse.{ParsesUnsigned, digits_value}
use Rattle.std.proofs.lemmas.Bool.{and_parts, cases_lt}
use Rattle.std.proofs.lemmas.Bool.Decides.{nat_tests}
use Rattle.std.proofs.lemmas.Str.Parse.{IsDigitsTest, IsNumeralModel, numerals_by_value, parse_digits}
use Rattle.dv_command.specs.Numbers.{is_numeral, number_in}

-- what `parse` makes of digits
digits_test : IsDigitsTest (λ ds. list_all is_ascii_digit ds ≡ true)
digits_test = search rules

numerals : IsNumeralModel (λ ds. list_all is_ascii_digit ds ≡ true) (digits_value 10)
numerals = numerals_by_value _ digits_test

pub parsed : {E : Type 0} (bytes : List ℕ) (r : Result ℕ E) → ParsesUnsigned 64 10 bytes r → is_numeral bytes ≡ true
    → OkIff r ((0 < length bytes) × (digits_value 10 bytes < 2 ^ 64)) (digits_value 10 bytes)
parsed bytes r h n =
    parse_digits numerals 64 bytes r h ((and_parts (nat_lt 0 (length bytes)) (list_all is_ascii_digit bytes) n).1)

numeral_some : (bytes : List ℕ) → is_numeral bytes ≡ true → 0 < length bytes
numeral_some bytes h = let t = (and_parts (nat_lt 0 (length bytes)) (list_all is_ascii_digit bytes) h).0 in grind (arith, nat_tests)

-- a number past the greatest is none
above : (least greatest n : ℕ) → greatest < n → (nat_le least n && nat_le n greatest) ≡ false
above least greatest n h = grind (arith, nat_tests)

-- what is made of an answer of `parse`
pub too_large : {E : Type 0} (least greatest : ℕ) (bytes : List ℕ) (r : Result ℕ E) (e : E) → greatest < 2 ^ 64 → r ≡ Err e
    → ParsesUnsigned 64 10 bytes r → is_numeral bytes ≡ true → None ≡ number_in least greatest bytes
too_large least greatest bytes r e small is h n =
    let k : ParsesUnsigned 64 10 bytes (Err e) = subst (ParsesUnsigned 64 10 bytes) is h in
    elim (cases_lt (digits_value 10 bytes) (2 ^ 64)) [
      | inl lt ↦ absurd (parsed bytes (Err e) k n (numeral_some bytes n, lt))
      | inr ge ↦ rw (n, above least greatest (digits_value 10 bytes) (omega arith)) refl
    ]
