-- In a state that holds numbers of the language alone, what an expression outside of all rules gives is not below the least one.
use Rattle.std.proofs.Common.{◌≡◌, ℕ, zero, suc, ℤ, pos, negsuc, neg_ℤ, ◌+ℤ◌, ◌-ℤ◌, ◌*ℤ◌, ◌≤ℤ◌, ◌≤◌, ◌%◌, nat_abs, int_div}
use Rattle.std.proofs.Common.{int_rem, int_lt, Bool, true, false, not, ◌&&◌, if◌then◌else◌, IsTrue, List, [], ◌∷◌, slice_get, All}
use Rattle.std.proofs.Common.{Option, Some, None, Result, Ok, Err, IfOk, IfSome, refl, subst, arith}
use Rattle.std.specs.Ordering.{int_eq}
use Rattle.std.proofs.lemmas.Int.{ints}
use Rattle.std.proofs.lemmas.List.Elements.{All-nil}
use Rattle.std.proofs.Math.Nat.{mod-le}
use Rattle.std.proofs.lemmas.Option.{get_or_from_slice_get, slice_get_within}
use Rattle.dv_syntax.specs.declared.tree.BagCall.{BagCall}
use Rattle.dv_syntax.specs.declared.tree.BagCall.TheVariants as call
use Rattle.dv_syntax.specs.declared.tree.Operator.{Operator}
use Rattle.dv_syntax.specs.declared.tree.Operator.TheVariants as operator
use Rattle.dv_syntax.specs.declared.tree.Prefix.{Prefix}
use Rattle.dv_syntax.specs.declared.tree.Prefix.TheVariants as prefix
use Rattle.dv_syntax.specs.Trees.{Expression, Literal, TruthValue, Named, Parens, Prefixed, Binary, Call, Elapsed, Times}
use Rattle.dv_bag.specs.Arithmetic.{is_kept, number_or_empty, number_or_overflow}
use Rattle.dv_bag.specs.Arrivals.{nothing_arrived}
use Rattle.dv_bag.specs.Outcome.{◌>>=◌}
use Rattle.dv_bag.specs.Bag.{Counts, is_number, least, most, sum_of}
use Rattle.dv_bag.specs.declared.collection.Collection.{Collection}
use Rattle.dv_bag.specs.declared.collection.Collection.TheVariants as collection
use Rattle.dv_bag.specs.declared.fault.Fault.{Fault}
use Rattle.dv_bag.specs.declared.fault.Fault.TheVariants as fault
use Rattle.dv_bag.specs.declared.state.Datum.{Datum}
use Rattle.dv_bag.specs.declared.state.Datum.TheVariants as datum
use Rattle.dv_bag.specs.declared.state.State.{State}
use Rattle.dv_bag.specs.declared.value.Value.{Value}
use Rattle.dv_bag.specs.declared.value.Value.TheVariants.{Number, Truth}
use Rattle.dv_bag.specs.Reading.{held_of_datum}
use Rattle.dv_eval.specs.Scope.{Scope, names_of, index_of}
use Rattle.dv_eval.specs.Meaning.{bag_or_none, call_result, collection_between, datum_at, first, is_decided, meaning, moment_in}
use Rattle.dv_eval.specs.Meaning.{number_of, operator_result, outermost, prefix_result, queue_or_none, value_of_datum}
use Rattle.dv_bag.specs.Numbers.{HasNumbers, HoldsNumbers, IsBagOfNumbers, IsOfNumbers}
use Rattle.dv_bound.specs.Response.{least_number}
use Rattle.law_accepted.proofs.Outcomes.{if_ok_after, if_ok_then}

-- a number that is not below the least one of the language
abbrev pub IsNotUnder : ℤ → Type 0
IsNotUnder n = least_number ≤ℤ n

-- what is computed is such a number, where it is no fault
abbrev pub GivesNotUnder : Result Value Fault → Type 0
GivesNotUnder r = IfOk r (λ v. IsNotUnder (number_of v))

-- ---- Numbers

natural_not_under : (n : ℕ) → IsNotUnder (pos n)
natural_not_under n = omega (arith, ints)

truth_not_under : (b : Bool) → IsNotUnder (number_of (Truth b))
truth_not_under true = natural_not_under 1
truth_not_under false = natural_not_under 0

number_not_under : (n : ℤ) → IsTrue (is_number n) → IsNotUnder n
number_not_under (pos n) number = natural_not_under n
number_not_under (negsuc n) number = grind (arith, ints)

pub not_less : (a b : ℤ) (rest : Bool) → (not (int_lt a b) && rest) ≡ true → b ≤ℤ a
not_less a b rest e = grind (arith, ints)

-- ---- Operators

overflow_not_under : (n : ℤ) → GivesNotUnder (number_or_overflow n)
overflow_not_under n = by (is_kept n) refl
  where
    by : (b : Bool) → is_kept n ≡ b → GivesNotUnder (if b then Ok (Number n) else Err fault.Overflow)
    by true kept = not_less n least_number _ kept
    by false over = tt

divided_not_under : (b : Bool) (r : Result Value Fault) → GivesNotUnder r → GivesNotUnder (if b then Err fault.Divide else r)
divided_not_under true r not_under = tt
divided_not_under false r not_under = not_under

no_further_below : (k a : ℕ) → k ≤ suc a → IsNotUnder (negsuc a) → IsNotUnder (neg_ℤ (pos k))
no_further_below zero a less not_under = natural_not_under 0
no_further_below (suc k) a less not_under = grind (arith, ints)

remainder_not_under : (a b : ℤ) → IsNotUnder a → IsNotUnder (int_rem a b)
remainder_not_under (pos a) b not_under = natural_not_under (a % nat_abs b)
remainder_not_under (negsuc a) b not_under = no_further_below (suc a % nat_abs b) a (mod-le (suc a) (nat_abs b)) not_under

operator_not_under : (o : Operator) (x y : Value) → IsNotUnder (number_of x) → GivesNotUnder (operator_result o x y)
operator_not_under operator.Or x y first = truth_not_under _
operator_not_under operator.And x y first = truth_not_under _
operator_not_under operator.Add x y first = overflow_not_under (number_of x +ℤ number_of y)
operator_not_under operator.Subtract x y first = overflow_not_under (number_of x -ℤ number_of y)
operator_not_under operator.Multiply x y first = overflow_not_under (number_of x *ℤ number_of y)
operator_not_under operator.Divide x y first =
    divided_not_under (int_eq (number_of y) (pos 0)) _ (overflow_not_under (int_div (number_of x) (number_of y)))
operator_not_under operator.Remainder x y first =
    divided_not_under (int_eq (number_of y) (pos 0)) _ (remainder_not_under (number_of x) (number_of y) first)
operator_not_under operator.Equal x y first = truth_not_under _
operator_not_under operator.Unequal x y first = truth_not_under _
operator_not_under operator.Less x y first = truth_not_under _
operator_not_under operator.AtMost x y first = truth_not_under _
operator_not_under operator.Greater x y first = truth_not_under _
operator_not_under operator.AtLeast x y first = truth_not_under _

prefix_not_under : (p : Prefix) (x : Value) → GivesNotUnder (prefix_result p x)
prefix_not_under prefix.Minus x = overflow_not_under (neg_ℤ (number_of x))
prefix_not_under prefix.Not x = truth_not_under _

decided_not_under : (b t : Bool) (r : Result Value Fault) → GivesNotUnder r → GivesNotUnder (if b then Ok (Truth t) else r)
decided_not_under true t r not_under = truth_not_under t
decided_not_under false t r not_under = not_under

-- ---- Collections

no_numbers : HasNumbers (collection.Bag [])
no_numbers = All-nil (λ (p : ℤ × ℕ). IsTrue (is_number p.0))

bag_numbers : (c : Collection) → HasNumbers c → IsBagOfNumbers (bag_or_none c)
bag_numbers (collection.Bag b) numbers = numbers
bag_numbers (collection.Queue q) numbers = no_numbers

queue_numbers : (c : Collection) → HasNumbers c → All (λ v. IsTrue (is_number v)) (queue_or_none c)
queue_numbers (collection.Bag b) numbers = All-nil (λ (v : ℤ). IsTrue (is_number v))
queue_numbers (collection.Queue q) numbers = numbers

least_not_under : (b : Counts) → IsBagOfNumbers b → GivesNotUnder (number_or_empty (least b))
least_not_under [] numbers = tt
least_not_under (p ∷ ps) numbers = number_not_under p.0 (numbers 0 p (omega arith))

most_not_under : (b : Counts) → IsBagOfNumbers b → GivesNotUnder (number_or_empty (most b))
most_not_under [] numbers = tt
most_not_under (p ∷ []) numbers = number_not_under p.0 (numbers 0 p (omega arith))
most_not_under (p ∷ q ∷ ps) numbers = most_not_under (q ∷ ps) (λ k d within. numbers (suc k) d (omega arith))

first_not_under : (q : List ℤ) → All (λ v. IsTrue (is_number v)) q → GivesNotUnder (number_or_empty (first q))
first_not_under [] numbers = tt
first_not_under (n ∷ q) numbers = number_not_under n (numbers 0 n (omega arith))

call_not_under : (k : BagCall) (c : Collection) → HasNumbers c → GivesNotUnder (call_result k c)
call_not_under call.Size c numbers = natural_not_under _
call_not_under call.Sum c numbers = by (is_number (sum_of (bag_or_none c))) refl
  where
    by : (t : Bool) → is_number (sum_of (bag_or_none c)) ≡ t
        → GivesNotUnder ((if t then Ok (sum_of (bag_or_none c)) else Err fault.Overflow) >>= λ n. Ok (Number n))
    by true number = number_not_under (sum_of (bag_or_none c)) number
    by false over = tt
call_not_under call.Least c numbers = least_not_under (bag_or_none c) (bag_numbers c numbers)
call_not_under call.Most c numbers = most_not_under (bag_or_none c) (bag_numbers c numbers)
call_not_under call.Front c numbers = first_not_under (queue_or_none c) (queue_numbers c numbers)

-- ---- States

found : {A : Type 0} (P : A → Type 0) (xs : List A) (index : ℕ) (o : Option A) → slice_get xs index ≡ o → All P xs → IfSome o P
found P xs index None at all = tt
found P xs index (Some x) at all =
    subst P (get_or_from_slice_get xs index x x at) (all index x (slice_get_within xs index x at))

datum_not_under : (o : Option Datum) → IfSome o IsOfNumbers → IsNotUnder (number_of (value_of_datum o))
datum_not_under None numbers = natural_not_under 0
datum_not_under (Some (datum.Number n)) numbers = number_not_under n numbers
datum_not_under (Some (datum.Flag b)) numbers = truth_not_under b
datum_not_under (Some (datum.Held c)) numbers = natural_not_under 0

held_numbers : (o : Option Datum) → IfSome o IsOfNumbers → HasNumbers (held_of_datum o)
held_numbers None numbers = no_numbers
held_numbers (Some (datum.Number n)) numbers = no_numbers
held_numbers (Some (datum.Flag b)) numbers = no_numbers
held_numbers (Some (datum.Held c)) numbers = numbers

module _ (scope : Scope) (s : State) (numbers : HoldsNumbers s.variables) where
  abbrev given : Expression → Result Value Fault
  given e = meaning scope (moment_in (outermost nothing_arrived) s) e

  at_index : (index : ℕ) → IfSome (slice_get s.variables index) IsOfNumbers
  at_index index = found IsOfNumbers s.variables index _ refl numbers

  pub name_not_under : (index : Option ℕ) → IsNotUnder (number_of (value_of_datum (datum_at s.variables index)))
  name_not_under None = natural_not_under 0
  name_not_under (Some index) = datum_not_under (slice_get s.variables index) (at_index index)

  between_numbers : (index port : Option ℕ) → HasNumbers (collection_between (moment_in (outermost nothing_arrived) s) index port)
  between_numbers (Some offset) port = held_numbers (slice_get s.variables offset) (at_index offset)
  between_numbers None None = no_numbers
  between_numbers None (Some port) = no_numbers

  pub value_not_under : (e : Expression) → GivesNotUnder (given e)
  value_not_under (Literal n) = natural_not_under n.value
  value_not_under (TruthValue offset b) = truth_not_under b
  value_not_under (Named name) = name_not_under (index_of name.number (names_of scope.variables))
  value_not_under (Parens offset e) = value_not_under e
  value_not_under (Prefixed o offset e) =
      if_ok_after (given e) (prefix_result o) _ (λ x. prefix_not_under o x)
  value_not_under (Binary o a b) =
      if_ok_then (given a) _ (λ v. IsNotUnder (number_of v)) _ (value_not_under a) (λ x first.
      decided_not_under (is_decided o x) _ _ (if_ok_after (given b) (operator_result o x) _ (λ y. operator_not_under o x y first)))
  value_not_under (Call c offset b) =
      call_not_under c _ (between_numbers (index_of b.number (names_of scope.variables)) (index_of b.number scope.inputs))
  value_not_under (Elapsed offset) = overflow_not_under (pos nothing_arrived.elapsed)
  value_not_under (Times offset e b) =
      if_ok_after (given e) _ _ (λ x. natural_not_under _)
