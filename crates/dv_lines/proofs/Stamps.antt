-- The text of a time, of which the first digits stay.
use Rattle.std.proofs.Common.{◌≡◌, ℕ, ◌-◌, ◌/◌, ◌^◌, ◌<◌, ◌≤◌, List, ◌++◌, length, take}
use Rattle.std.proofs.Common.{sym, ap, ◌∙◌, arith, length-append, take-take, inl, inr}
use Rattle.std.proofs.lemmas.Bool.{cases_lt}
use Rattle.std.proofs.lemmas.Fmt.{length-decimal-le}
use Rattle.std.proofs.lemmas.List.{take-append-le, length-take-le, take_all}
use Rattle.std.specs.Fmt.{decimal}
use Rattle.itoa.proofs.Decimal.{decimal_four, length_four}
use Rattle.dv_lines.specs.Digits.{last_four}

-- a number by its first digits and its last four
pub by_last_four : (n : ℕ) → 0 < n / 10000 → n < 2 ^ 64 → decimal n ≡ decimal (n / 10000) ++ last_four n
by_last_four n long fits = decimal_four n (omega (arith, long)) fits

-- a number of more than four digits has some before the last four
pub is_long : (n at : ℕ) → n < 2 ^ 64 → at ≡ length (decimal n) → 0 < at - 4 → 0 < n / 10000
is_long n at fits count more = elim (cases_lt n 10000) [
  | inl lt ↦
      let few = length-decimal-le 4 n (omega arith) (omega (arith, lt)) fits in absurd (omega (arith, count, more, few))
  | inr ge ↦ omega (arith, ge)
]

-- the digits before the last four are still there when something was put behind them all
module _ (n at end : ℕ) (old new behind : List ℕ) (fits : n < 2 ^ 64) (within : at ≤ length old) (is : take at old ≡ decimal n)
    (room : end ≤ length new) (put : take end new ≡ take at old ++ behind) where
  size : length (take at old) ≡ at
  size = length-take-le at old within

  pub all_digits : at ≡ length (decimal n)
  all_digits = sym size ∙ ap length is

  pub first_digits : 0 < at - 4 → take (at - 4) new ≡ decimal (n / 10000)
  first_digits more =
      let long = is_long n at fits all_digits more in
      let four = length_four n (omega (arith, long)) fits in
      let size_end = length-take-le end new room in
      let size_all = ap length put ∙ length-append (take at old) behind in
      sym (take-take (at - 4) end new (omega (arith, size, size_end, size_all)))
      ∙ ap (take (at - 4)) put
      ∙ take-append-le (at - 4) (take at old) behind (omega (arith, size))
      ∙ ap (take (at - 4)) (is ∙ by_last_four n long fits)
      ∙ take-append-le (at - 4) (decimal (n / 10000)) (last_four n) (omega (arith, all_digits, four))
      ∙ take_all (at - 4) (decimal (n / 10000)) (omega (arith, all_digits, four))
