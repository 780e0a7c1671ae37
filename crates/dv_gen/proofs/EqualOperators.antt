-- Operators give the same by indices as by names, of operands of their types.
use Rattle.std.proofs.Common.{◌≡◌, ℤ, Bool, true, false, if◌then◌else◌, List, [], ◌∷◌, refl, ap, ◌∙◌, Option, Some, Result, Ok}
use Rattle.std.proofs.Common.{Err}
use Rattle.dv_syntax.specs.Operators.{class_of}
use Rattle.dv_syntax.specs.declared.tree.BagCall.{BagCall}
use Rattle.dv_syntax.specs.declared.tree.BagCall.TheVariants as call
use Rattle.dv_syntax.specs.declared.tree.Operator.{Operator}
use Rattle.dv_syntax.specs.declared.tree.Operator.TheVariants as operator
use Rattle.dv_bag.specs.Arrivals.{Arrivals}
use Rattle.dv_bag.specs.Collections.{discipline_of}
use Rattle.dv_bag.specs.Outcome.{◌>>=◌}
use Rattle.dv_bag.specs.declared.collection.Collection.{Collection}
use Rattle.dv_bag.specs.declared.collection.Collection.TheVariants as collection
use Rattle.dv_bag.specs.declared.fault.Fault.{Fault}
use Rattle.dv_bag.specs.declared.state.State.{State}
use Rattle.dv_bag.specs.declared.value.Value.{Value}
use Rattle.dv_bag.specs.declared.value.Value.TheVariants as value
use Rattle.dv_bag.specs.declared.value.ValueType.{ValueType}
use Rattle.dv_bag.specs.declared.value.ValueType.TheVariants.{Number, Truth}
use Rattle.dv_eval.specs.Meaning.{bag_or_none, call_result, is_decided, operator_result, truth_of as truth_in_text}
use Rattle.dv_check.specs.declared.wanted.Wanted.TheVariants as want
use Rattle.dv_check.specs.Types.{both_of, suits, type_by, type_if, wanted_by}
use Rattle.law_accepted.specs.Fitting.{is_of_type}
use Rattle.dv_code.specs.Operations.{bag_in, binary_value, collection_of, leaf_value, of_numbers, of_truths}
use Rattle.dv_code.specs.declared.instruction.Source.{Source}
use Rattle.dv_code.specs.declared.instruction.Source.TheVariants.{Own, Port}
use Rattle.dv_code.specs.declared.instruction.Binary.{Binary as Operation}
use Rattle.dv_code.specs.declared.instruction.Binary.TheVariants as binary
use Rattle.dv_gen.specs.Resolution.{call_leaf, equal_of, infix_of, unequal_of}
use Rattle.dv_gen.specs.Resolved.{Expression, Infix, or_zero, truth_of, type_of, value_of}
use Rattle.dv_gen.proofs.OperandTypes.{alike_wanted, both_wanted}

-- ---- Results

-- what goes on alike from a result ends alike
pub bind_agrees : {A B : Type 0} (r : Result A Fault) (f g : A → Result B Fault) → ((x : A) → r ≡ Ok x → f x ≡ g x)
    → (r >>= f) ≡ (r >>= g)
bind_agrees (Ok x) f g same = same x refl
bind_agrees (Err e) f g same = refl

-- a value of a type, if there is one
abbrev pub GivesType : ValueType → Result Value Fault → Type 0
GivesType t r = (v : Value) → r ≡ Ok v → is_of_type t v ≡ true

-- ---- Values of a type

-- what agrees on numbers agrees on each value that is one, and so of truth values
pub on_number : {A : Type 0} (f g : Value → A) (v : Value) → is_of_type Number v ≡ true
    → ((n : ℤ) → f (value.Number n) ≡ g (value.Number n)) → f v ≡ g v
on_number f g (value.Number n) is same = same n
on_number f g (value.Truth b) is same = absurd (cc)

pub on_truth : {A : Type 0} (f g : Value → A) (v : Value) → is_of_type Truth v ≡ true
    → ((b : Bool) → f (value.Truth b) ≡ g (value.Truth b)) → f v ≡ g v
on_truth f g (value.Number n) is same = absurd (cc)
on_truth f g (value.Truth b) is same = same b

-- ---- Operators

-- an operator that is decided asks for nothing more
abbrev decided_or : Operator → Value → Result Value Fault → Result Value Fault
decided_or o x right = if is_decided o x then Ok (value.Truth (truth_in_text x)) else (right >>= λ y. operator_result o x y)

truth_kept : (r : Result Value Fault) → GivesType Truth r → r ≡ (r >>= λ y. Ok (value.Truth (truth_in_text y)))
truth_kept (Ok (value.Number n)) is = let not_truth = is (value.Number n) refl in absurd (cc)
truth_kept (Ok (value.Truth b)) is = refl
truth_kept (Err e) is = refl

and_agrees : (right : Result Value Fault) → GivesType Truth right → (b : Bool)
    → (if truth_of (value.Truth b) then right else Ok (value.Truth b)) ≡ decided_or operator.And (value.Truth b) right
and_agrees right is true = truth_kept right is
and_agrees right is false = refl

or_agrees : (right : Result Value Fault) → GivesType Truth right → (b : Bool)
    → (if truth_of (value.Truth b) then Ok (value.Truth b) else right) ≡ decided_or operator.Or (value.Truth b) right
or_agrees right is true = refl
or_agrees right is false = truth_kept right is

same_truths : (a b : Bool) → or_zero (of_truths binary.Same a b) ≡ operator_result operator.Equal (value.Truth a) (value.Truth b)
same_truths true true = refl
same_truths true false = refl
same_truths false true = refl
same_truths false false = refl

different_truths : (a b : Bool)
    → or_zero (of_truths binary.Different a b) ≡ operator_result operator.Unequal (value.Truth a) (value.Truth b)
different_truths true true = refl
different_truths true false = refl
different_truths false true = refl
different_truths false false = refl

-- the operands by indices and by names
module _ (arrivals : Arrivals) (items : List ℤ) (s : State) (a b : Expression) (left right : Result Value Fault)
    (is_left : value_of arrivals items s a ≡ left) (is_right : value_of arrivals items s b ≡ right) where
  abbrev indexed : Expression → Result Value Fault
  indexed e = value_of arrivals items s e

  -- where both are of a type, it is enough that the operation and the operator agree on the values of that type
  values_agree : {V : Type 0} (t : ValueType) (value_with : V → Value)
      → ((f g : Value → Result Value Fault) (v : Value) → is_of_type t v ≡ true
      → ((c : V) → f (value_with c) ≡ g (value_with c)) → f v ≡ g v)
      → (operation : Operation) (o : Operator) → GivesType t left → GivesType t right
      → ((c d : V)
      → or_zero (binary_value operation (value_with c) (value_with d)) ≡ operator_result o (value_with c) (value_with d))
      → indexed (Infix operation a b) ≡ (left >>= λ x. right >>= λ y. operator_result o x y)
  values_agree t value_with on_type operation o left_typed right_typed same =
      let by_indices = λ (x y : Value). or_zero (binary_value operation x y) in
      rw (is_left, is_right) (bind_agrees left _ _ (λ x is_x.
      bind_agrees right _ _ (λ y is_y.
      on_type (λ v. by_indices v y) (λ v. operator_result o v y) x (left_typed x is_x) (λ c.
      on_type (by_indices (value_with c)) (operator_result o (value_with c)) y (right_typed y is_y) (same c)))))

  numbers_agree : (operation : Operation) (o : Operator) → GivesType Number left → GivesType Number right
      → ((n k : ℤ) → or_zero (of_numbers operation n k) ≡ operator_result o (value.Number n) (value.Number k))
      → indexed (Infix operation a b) ≡ (left >>= λ x. right >>= λ y. operator_result o x y)
  numbers_agree operation o left_typed right_typed same =
      values_agree Number value.Number on_number operation o left_typed right_typed same

  truths_agree : (operation : Operation) (o : Operator) → GivesType Truth left → GivesType Truth right
      → ((c d : Bool) → or_zero (of_truths operation c d) ≡ operator_result o (value.Truth c) (value.Truth d))
      → indexed (Infix operation a b) ≡ (left >>= λ x. right >>= λ y. operator_result o x y)
  truths_agree operation o left_typed right_typed same =
      values_agree Truth value.Truth on_truth operation o left_typed right_typed same

  equal_agrees : (u : ValueType) → GivesType u left → GivesType u right
      → indexed (Infix (equal_of u) a b) ≡ (left >>= λ x. right >>= λ y. operator_result operator.Equal x y)
  equal_agrees Number left_typed right_typed = numbers_agree binary.Equal operator.Equal left_typed right_typed (λ n k. refl)
  equal_agrees Truth left_typed right_typed = truths_agree binary.Same operator.Equal left_typed right_typed same_truths

  unequal_agrees : (u : ValueType) → GivesType u left → GivesType u right
      → indexed (Infix (unequal_of u) a b) ≡ (left >>= λ x. right >>= λ y. operator_result operator.Unequal x y)
  unequal_agrees Number left_typed right_typed =
      numbers_agree binary.Unequal operator.Unequal left_typed right_typed (λ n k. refl)
  unequal_agrees Truth left_typed right_typed =
      truths_agree binary.Different operator.Unequal left_typed right_typed different_truths

  -- where each operand that has a type gives values of it
  module _ (p q : Option ValueType) (t : ValueType) (one : (u : ValueType) → p ≡ Some u → GivesType u left)
      (two : (u : ValueType) → q ≡ Some u → GivesType u right) (is : (u : ValueType) → p ≡ Some u → type_of a ≡ u) where
    of_numbers_agree : (operation : Operation) (o : Operator) (given : ValueType) → type_if (both_of Number p q) given ≡ Some t
        → ((n k : ℤ) → or_zero (of_numbers operation n k) ≡ operator_result o (value.Number n) (value.Number k))
        → indexed (Infix operation a b) ≡ (left >>= λ x. right >>= λ y. operator_result o x y)
    of_numbers_agree operation o given typed same =
        let wanted = both_wanted Number given t p q typed in
        numbers_agree operation o (one Number wanted.0) (two Number wanted.1) same

    pub operator_agrees : (o : Operator) → type_by (class_of o) p q ≡ Some t
        → indexed (infix_of o a b) ≡ (left >>= λ x. decided_or o x right)
    operator_agrees operator.Or typed =
        let wanted = both_wanted Truth Truth t p q typed in
        rw (is_left, is_right) (bind_agrees left _ _ (λ x is_x.
        on_truth (λ v. if truth_of v then Ok v else right) (λ v. decided_or operator.Or v right) x (one Truth wanted.0 x is_x)
        (or_agrees right (two Truth wanted.1))))
    operator_agrees operator.And typed =
        let wanted = both_wanted Truth Truth t p q typed in
        rw (is_left, is_right) (bind_agrees left _ _ (λ x is_x.
        on_truth (λ v. if truth_of v then right else Ok v) (λ v. decided_or operator.And v right) x (one Truth wanted.0 x is_x)
        (and_agrees right (two Truth wanted.1))))
    operator_agrees operator.Add typed = of_numbers_agree binary.Add operator.Add Number typed (λ n k. refl)
    operator_agrees operator.Subtract typed = of_numbers_agree binary.Subtract operator.Subtract Number typed (λ n k. refl)
    operator_agrees operator.Multiply typed = of_numbers_agree binary.Multiply operator.Multiply Number typed (λ n k. refl)
    operator_agrees operator.Divide typed = of_numbers_agree binary.Divide operator.Divide Number typed (λ n k. refl)
    operator_agrees operator.Remainder typed = of_numbers_agree binary.Remainder operator.Remainder Number typed (λ n k. refl)
    operator_agrees operator.Equal typed =
        let wanted = alike_wanted t p q typed in
        ap (λ u. indexed (Infix (equal_of u) a b)) (is wanted.0 wanted.1)
        ∙ equal_agrees wanted.0 (one wanted.0 wanted.1) (two wanted.0 wanted.2)
    operator_agrees operator.Unequal typed =
        let wanted = alike_wanted t p q typed in
        ap (λ u. indexed (Infix (unequal_of u) a b)) (is wanted.0 wanted.1)
        ∙ unequal_agrees wanted.0 (one wanted.0 wanted.1) (two wanted.0 wanted.2)
    operator_agrees operator.Less typed = of_numbers_agree binary.Less operator.Less Truth typed (λ n k. refl)
    operator_agrees operator.AtMost typed = of_numbers_agree binary.AtMost operator.AtMost Truth typed (λ n k. refl)
    operator_agrees operator.Greater typed = of_numbers_agree binary.Greater operator.Greater Truth typed (λ n k. refl)
    operator_agrees operator.AtLeast typed = of_numbers_agree binary.AtLeast operator.AtLeast Truth typed (λ n k. refl)

-- ---- Collections

-- what suits where a bag is wanted is read as a bag
pub bag_read : (o : Option Collection) (held : Collection) → o ≡ Some held → suits want.Bag (discipline_of held) ≡ true
    → bag_in o ≡ Some (bag_or_none held)
bag_read o (collection.Bag b) is suited = ap bag_in is
bag_read o (collection.Queue q) is suited = absurd (cc)

-- what a call gives of a collection that suits it
pub call_agrees : (c : BagCall) (arrivals : Arrivals) (items : List ℤ) (s : State) (source : Source) (held : Collection)
    → collection_of arrivals s source ≡ Some held → suits (wanted_by c) (discipline_of held) ≡ true
    → or_zero (leaf_value arrivals items s (call_leaf c source)) ≡ call_result c held
call_agrees call.Size arrivals items s source held is suited = rw is refl
call_agrees call.Sum arrivals items s source held is suited =
    let bag = bag_read (collection_of arrivals s source) held is suited in
    rw bag refl
call_agrees call.Least arrivals items s source held is suited =
    let bag = bag_read (collection_of arrivals s source) held is suited in
    rw bag refl
call_agrees call.Most arrivals items s source held is suited =
    let bag = bag_read (collection_of arrivals s source) held is suited in
    rw bag refl
call_agrees call.Front arrivals items s source (collection.Bag b) is suited = absurd (cc)
call_agrees call.Front arrivals items s (Own d index) (collection.Queue []) is suited = rw is refl
call_agrees call.Front arrivals items s (Own d index) (collection.Queue (n ∷ q)) is suited = rw is refl
call_agrees call.Front arrivals items s (Port port) (collection.Queue q) is suited = absurd (cc)
