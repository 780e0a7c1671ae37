-- Runs of ASCII characters, and how digits read as a number.
use Rattle.std.proofs.Common.{◌≡◌, ℕ, ◌<◌, ◌≤◌, ◌^◌, Bool, true, List, [], ◌∷◌, length, arith, rules, IsAscii, Result, Ok, Err}
use Rattle.std.proofs.Common.{OkIff, subst, lit<}
use Rattle.std.specs.List.{list_all}
use Rattle.std.specs.Char.{is_ascii_digit}
use Rattle.dv_lex.specs.Lexemes.{is_name_byte}
use Rattle.std.specs.Str.Parse.{ParsesUnsigned, digits_value}
use Rattle.std.proofs.lemmas.Bool.{and_parts}
use Rattle.std.proofs.lemmas.Bool.Decides.{nat_tests}
use Rattle.std.proofs.lemmas.Str.Ascii.{IsAscii-cons}
use Rattle.std.proofs.lemmas.Str.Parse.{IsDigitsTest, numerals_by_value, parse_digits}

pub IsAscii-run : (p : ℕ → Bool) → ((b : ℕ) → p b ≡ true → b < 128) → (bs : List ℕ) → list_all p bs ≡ true → IsAscii bs
IsAscii-run p small [] h = λ i. lit< tt
IsAscii-run p small (b ∷ bs) h =
    let t = and_parts (p b) (list_all p bs) h in
    IsAscii-cons b bs (small b t.0) (IsAscii-run p small bs t.1)

pub is_ascii_digit-ascii : (b : ℕ) → is_ascii_digit b ≡ true → b < 128
is_ascii_digit-ascii b h = grind (arith, nat_tests)

pub IsAscii-digits : (bs : List ℕ) → list_all is_ascii_digit bs ≡ true → IsAscii bs
IsAscii-digits bs h = IsAscii-run is_ascii_digit is_ascii_digit-ascii bs h

pub is_name_byte-ascii : (b : ℕ) → is_name_byte b ≡ true → b < 128
is_name_byte-ascii b h = grind (arith, nat_tests)

pub IsAscii-name_bytes : (bs : List ℕ) → list_all is_name_byte bs ≡ true → IsAscii bs
IsAscii-name_bytes bs h = IsAscii-run is_name_byte is_name_byte-ascii bs h

-- what `parse` makes of digits
digits_test : IsDigitsTest (λ ds. list_all is_ascii_digit ds ≡ true)
digits_test = search rules

OkIff-same : {T E : Type 0} (P Q : Type 0) (v : T) (r : Result T E) → (P → Q) → (Q → P) → OkIff r P v → OkIff r Q v
OkIff-same P Q v (Ok x) f g h = (f h.0, h.1)
OkIff-same P Q v (Err e) f g h = λ q. h (g q)

pub number_from_digits : {E : Type 0} (ds : List ℕ) (r : Result ℕ E) → ParsesUnsigned 64 10 ds r → list_all is_ascii_digit ds ≡ true →
    0 < length ds → OkIff r (digits_value 10 ds < 2 ^ 64) (digits_value 10 ds)
number_from_digits ds r h d some =
    OkIff-same _ _ _ r (λ p. p.1) (λ q. (some, q)) (parse_digits (numerals_by_value _ digits_test) 64 ds r h d)

pub refused_number : {E : Type 0} (n : ℕ) (r : Result ℕ E) (e : E) → r ≡ Err e → OkIff r (n < 2 ^ 64) n → 2 ^ 63 ≤ n
refused_number n r e is h =
    let none : n < 2 ^ 64 → ⊥ = subst (λ (x : Result ℕ _). OkIff x (n < 2 ^ 64) n) is h in
    omega (arith, none)
