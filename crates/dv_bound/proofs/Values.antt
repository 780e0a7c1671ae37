-- In a state that fits and holds numbers of the language alone, what a hold's expression gives is not below what is known of it.
use Rattle.std.proofs.Common.{◌≡◌, ℕ, ℤ, pos, negsuc, ◌+ℤ◌, ◌≤ℤ◌, ◌≤◌, Bool, true, false, not, int_lt, if◌then◌else◌, Option}
use Rattle.std.proofs.Common.{Some, None, Result, Ok, Err, IfOk, IfSome, refl, sym, ap, subst, ◌∙◌, arith}
use Rattle.std.proofs.lemmas.Int.{ints}
use Rattle.dv_syntax.specs.Trees.{Expression, Literal, TruthValue, Named, Parens, Prefixed, Binary, Call, Elapsed, Times}
use Rattle.dv_syntax.specs.declared.tree.Operator.TheVariants as operator
use Rattle.dv_syntax.specs.declared.tree.BagCall.TheVariants as call
use Rattle.dv_bag.specs.Arithmetic.{is_kept, number_or_overflow}
use Rattle.dv_bag.specs.Arrivals.{nothing_arrived}
use Rattle.dv_bag.specs.declared.fault.Fault.{Fault}
use Rattle.dv_bag.specs.declared.fault.Fault.TheVariants.{Overflow}
use Rattle.dv_bag.specs.declared.value.Value.{Value}
use Rattle.dv_bag.specs.declared.value.Value.TheVariants.{Number}
use Rattle.dv_bag.specs.declared.state.Datum.{Datum}
use Rattle.dv_bag.specs.declared.state.Datum.TheVariants as datum
use Rattle.dv_bag.specs.declared.state.State.{State}
use Rattle.dv_eval.specs.declared.scope.Domain.{Domain}
use Rattle.dv_eval.specs.declared.scope.Domain.TheVariants as domain
use Rattle.dv_eval.specs.declared.scope.VariableRange.{VariableRange}
use Rattle.dv_eval.specs.Scope.{Scope, names_of, index_of}
use Rattle.dv_eval.specs.Meaning.{datum_at, datum_of_name, hold_of, meaning, moment_in, number_of, outermost, ticks_from, value_of_datum}
use Rattle.law_accepted.specs.Fitting.{HoldsDatum, datum_fits, domain_named}
use Rattle.dv_bag.specs.Numbers.{HoldsNumbers}
use Rattle.dv_bound.specs.Response.{IsNotBelow, greatest_number, hold_response, least_number, low, low_end}
use Rattle.dv_bound.specs.Response.{ticks_in, within_numbers}
use Rattle.dv_bound.proofs.Numbers.{name_not_under, not_less, value_not_under}
use Rattle.law_accepted.proofs.Outcomes.{if_ok_after, if_ok_then}

-- ---- Variables

datum_at_least : (r : VariableRange) (d : Datum) → datum_fits (domain.Number r) d ≡ true → r.low ≤ℤ number_of (value_of_datum (Some d))
datum_at_least r (datum.Number n) fit = not_less n r.low (not (int_lt r.high n)) fit
datum_at_least r (datum.Flag b) fit = absurd (cc)
datum_at_least r (datum.Held c) fit = absurd (cc)

value_held : (scope : Scope) (s : State) (q : ℕ) (d : Domain) (h : HoldsDatum scope s q d)
    → value_of_datum (datum_of_name scope s q) ≡ value_of_datum (Some h.datum)
value_held scope s q d h = ap (λ o. value_of_datum (datum_at s.variables o)) h.found ∙ ap value_of_datum h.there

-- ---- Sums

within_if : (below above : Bool) (n m : ℤ) → int_lt n least_number ≡ below → int_lt greatest_number n ≡ above → n ≤ℤ m → least_number ≤ℤ m
    → (if below then least_number else if above then greatest_number else n) ≤ℤ m
within_if true above n m under over reached kept = kept
within_if false true n m under over reached kept = grind (arith, ints)
within_if false false n m under over reached kept = reached

kept_at_least : (b : Bool) (x y m n : ℤ) → is_kept (m +ℤ n) ≡ b → x ≤ℤ m → y ≤ℤ n
    → IfOk (if b then Ok (Number (m +ℤ n)) else Err Overflow) (λ v. within_numbers (x +ℤ y) ≤ℤ number_of v)
kept_at_least true x y m n kept first second =
    let not_under = not_less (m +ℤ n) least_number _ kept in
    let reached : (x +ℤ y) ≤ℤ (m +ℤ n) = omega (arith, ints) in
    within_if (int_lt (x +ℤ y) least_number) (int_lt greatest_number (x +ℤ y)) (x +ℤ y) (m +ℤ n) refl refl reached not_under
kept_at_least false x y m n kept first second = tt

sum_at_least : (x y m n : ℤ) → x ≤ℤ m → y ≤ℤ n → IfOk (number_or_overflow (m +ℤ n)) (λ v. within_numbers (x +ℤ y) ≤ℤ number_of v)
sum_at_least x y m n first second = kept_at_least (is_kept (m +ℤ n)) x y m n refl first second

-- ---- Expressions and holds

ticks_at_least : (l n : ℤ) → l ≤ℤ n → IfOk (ticks_from n) (λ o. IfSome o (λ t. ticks_in l ≤ t))
ticks_at_least (pos l) (pos n) least = omega (arith, ints)
ticks_at_least (negsuc l) (pos n) least = omega arith
ticks_at_least l (negsuc n) least = tt

module _ (scope : Scope) (s : State)
    (held : (name : ℕ) (d : Domain) → domain_named scope name ≡ Some d → HoldsDatum scope s name d)
    (numbers : HoldsNumbers s.variables) where
  abbrev given : Expression → Result Value Fault
  given e = meaning scope (moment_in (outermost nothing_arrived) s) e

  name_at_least : (q : ℕ) (o : Option Domain) → domain_named scope q ≡ o
      → low_end o ≤ℤ number_of (value_of_datum (datum_of_name scope s q))
  name_at_least q None is = name_not_under scope s numbers (index_of q (names_of scope.variables))
  name_at_least q (Some (domain.Number r)) is =
      let h = held q (domain.Number r) is in
      subst (λ (v : Value). r.low ≤ℤ number_of v) (sym (value_held scope s q (domain.Number r) h)) (datum_at_least r h.datum h.fitting)
  name_at_least q (Some (domain.Flag start)) is = name_not_under scope s numbers (index_of q (names_of scope.variables))
  name_at_least q (Some (domain.Held d capacity)) is = name_not_under scope s numbers (index_of q (names_of scope.variables))

  value_at_least : (e : Expression) → IfOk (given e) (λ v. low scope e ≤ℤ number_of v)
  value_at_least (Literal n) = omega (arith, ints)
  value_at_least (TruthValue offset b) = value_not_under scope s numbers (TruthValue offset b)
  value_at_least (Named name) = name_at_least name.number (domain_named scope name.number) refl
  value_at_least (Parens offset e) = value_at_least e
  value_at_least (Prefixed o offset e) = value_not_under scope s numbers (Prefixed o offset e)
  value_at_least (Binary operator.Add a b) =
      if_ok_then (given a) _ (λ v. low scope a ≤ℤ number_of v) _ (value_at_least a) (λ x first.
      if_ok_then (given b) _ (λ v. low scope b ≤ℤ number_of v) _ (value_at_least b) (λ y second.
      sum_at_least (low scope a) (low scope b) (number_of x) (number_of y) first second))
  value_at_least (Binary o a b) = value_not_under scope s numbers (Binary o a b)
  value_at_least (Call call.Size offset b) = omega (arith, ints)
  value_at_least (Call c offset b) = value_not_under scope s numbers (Call c offset b)
  value_at_least (Elapsed offset) = value_not_under scope s numbers (Elapsed offset)
  value_at_least (Times offset e b) =
      if_ok_after (given e) _ _ (λ x. omega (arith, ints))

  -- a hold that ends is not below its response
  pub hold_not_below : (ticks : Option Expression) → IfOk (hold_of scope ticks s) (λ o. IfSome o (IsNotBelow (hold_response scope ticks)))
  hold_not_below None = tt
  hold_not_below (Some e) =
      if_ok_then (given e) (λ v. ticks_from (number_of v)) _ _ (value_at_least e) (λ v least.
      ticks_at_least (low scope e) (number_of v) least)
