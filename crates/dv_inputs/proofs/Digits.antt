-- How digits read as a number.
use Rattle.std.proofs.Common.{◌≡◌, inl, inr, ℕ, ◌<◌, ◌≤◌, ◌^◌, Bool, true, false, ◌&&◌, cond, List, [], ◌∷◌, length, nat_lt, Some, None}
use Rattle.std.proofs.Common.{Result, Err, OkIff, IsAscii, IsUtf8, refl, ap, subst, arith, rules, lit<}
use Rattle.std.specs.Char.{is_ascii_digit}
use Rattle.std.specs.List.{list_all}
use Rattle.std.specs.Str.{is_utf8}
use Rattle.std.specs.Str.Parse.{ParsesUnsigned, digits_value}
use Rattle.std.proofs.lemmas.Bool.{and_parts, cases_Bool, cases_lt, lt-ltb, le-ltb, ltb-true}
use Rattle.std.proofs.lemmas.Bool.Decides.{nat_tests}
use Rattle.std.proofs.lemmas.Str.{IsUtf8-from_ascii, IsUtf8-from_is_utf8, is_utf8-from_IsUtf8}
use Rattle.std.proofs.lemmas.Str.Ascii.{IsAscii-cons}
use Rattle.std.proofs.lemmas.Str.Parse.{IsDigitsTest, IsNumeralModel, numerals_by_value, parse_digits}
use Rattle.dv_inputs.specs.Numbers.{is_numeral, number_below}

-- bytes below 128 are UTF-8
ascii_bytes : (bytes : List ℕ) → list_all (λ b. nat_lt b 128) bytes ≡ true → IsAscii bytes
ascii_bytes [] h = λ i. lit< tt
ascii_bytes (b ∷ bytes) h =
    let t = and_parts (nat_lt b 128) (list_all (λ b. nat_lt b 128) bytes) h in
    IsAscii-cons b bytes (ltb-true b 128 t.0) (ascii_bytes bytes t.1)

pub ascii_utf8 : (bytes : List ℕ) → list_all (λ b. nat_lt b 128) bytes ≡ true → is_utf8 bytes ≡ true
ascii_utf8 bytes h = is_utf8-from_IsUtf8 bytes (IsUtf8-from_ascii bytes (ascii_bytes bytes h))

digit_ascii : (b : ℕ) → is_ascii_digit b ≡ true → b < 128
digit_ascii b h = grind (arith, nat_tests)

IsAscii-digits : (bytes : List ℕ) → list_all is_ascii_digit bytes ≡ true → IsAscii bytes
IsAscii-digits [] h = λ i. lit< tt
IsAscii-digits (b ∷ bytes) h =
    let t = and_parts (is_ascii_digit b) (list_all is_ascii_digit bytes) h in
    IsAscii-cons b bytes (digit_ascii b t.0) (IsAscii-digits bytes t.1)

-- digits are UTF-8
pub numeral_utf8 : (bytes : List ℕ) → is_numeral bytes ≡ true → IsUtf8 bytes
numeral_utf8 bytes h = IsUtf8-from_ascii bytes (IsAscii-digits bytes
    ((and_parts (nat_lt 0 (length bytes)) (list_all is_ascii_digit bytes) h).1))

pub not_utf8 : (bytes : List ℕ) → ¬ (IsUtf8 bytes) → is_utf8 bytes ≡ false
not_utf8 bytes h = elim (cases_Bool (is_utf8 bytes)) [
  | inl valid ↦ absurd (h (IsUtf8-from_is_utf8 bytes valid))
  | inr invalid ↦ invalid
]

-- what `parse` makes of digits
digits_test : IsDigitsTest (λ ds. list_all is_ascii_digit ds ≡ true)
digits_test = search rules

pub numerals : IsNumeralModel (λ ds. list_all is_ascii_digit ds ≡ true) (digits_value 10)
numerals = numerals_by_value _ digits_test

pub parsed : {E : Type 0} (bytes : List ℕ) (r : Result ℕ E) → ParsesUnsigned 64 10 bytes r → is_numeral bytes ≡ true
    → OkIff r ((0 < length bytes) × (digits_value 10 bytes < 2 ^ 64)) (digits_value 10 bytes)
parsed bytes r h n =
    parse_digits numerals 64 bytes r h ((and_parts (nat_lt 0 (length bytes)) (list_all is_ascii_digit bytes) n).1)

pub numeral_some : (bytes : List ℕ) → is_numeral bytes ≡ true → 0 < length bytes
numeral_some bytes h = let t = (and_parts (nat_lt 0 (length bytes)) (list_all is_ascii_digit bytes) h).0 in grind (arith, nat_tests)

-- a number that is found is one of digits, and below the bound
pub number_found : (bound : ℕ) (bytes : List ℕ) (n : ℕ) → number_below bound bytes ≡ Some n → (is_numeral bytes ≡ true) × (n < bound)
number_found bound bytes n e = step (is_numeral bytes && nat_lt (digits_value 10 bytes) bound) refl e
  where
    step : (t : Bool) → (is_numeral bytes && nat_lt (digits_value 10 bytes) bound) ≡ t → cond t (Some (digits_value 10 bytes)) None ≡ Some n
        → (is_numeral bytes ≡ true) × (n < bound)
    step true test e =
        let parts = and_parts (is_numeral bytes) (nat_lt (digits_value 10 bytes) bound) test in
        let same : digits_value 10 bytes ≡ n = cc in
        (parts.0, subst (λ (k : ℕ). k < bound) same (ltb-true (digits_value 10 bytes) bound parts.1))
    step false test e = cc

module _ (bound : ℕ) (bytes : List ℕ) (h : is_numeral bytes ≡ true) where
  pub is_below : (n : ℕ) → n ≡ digits_value 10 bytes → n < bound → Some n ≡ number_below bound bytes
  is_below n e lt = let less : digits_value 10 bytes < bound = omega arith in
      rw (h, lt-ltb (digits_value 10 bytes) bound less) (ap (λ (k : ℕ). Some k) e)

  pub is_above : (n : ℕ) → n ≡ digits_value 10 bytes → bound ≤ n → None ≡ number_below bound bytes
  is_above n e le = let more : bound ≤ digits_value 10 bytes = omega arith in rw (h, le-ltb (digits_value 10 bytes) bound more) refl

-- what is made of an answer of `parse`
pub too_large : {E : Type 0} (bound : ℕ) (bytes digits : List ℕ) (r : Result ℕ E) (e : E) → bound < 2 ^ 64 → r ≡ Err e → digits ≡ bytes
    → ParsesUnsigned 64 10 digits r → is_numeral bytes ≡ true → None ≡ number_below bound bytes
too_large bound bytes digits r e small is same h n =
    let k : ParsesUnsigned 64 10 bytes (Err e) = subst (λ (ds : List ℕ). ParsesUnsigned 64 10 ds (Err e)) same
    (subst (ParsesUnsigned 64 10 digits) is h) in
    elim (cases_lt (digits_value 10 bytes) (2 ^ 64)) [
      | inl lt ↦ absurd (parsed bytes (Err e) k n (numeral_some bytes n, lt))
      | inr ge ↦ let more : bound ≤ digits_value 10 bytes = omega arith in is_above bound bytes n (digits_value 10 bytes) refl more
    ]
