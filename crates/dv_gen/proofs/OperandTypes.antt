-- The types of the operands of an expression that has a type.
use Rattle.std.proofs.Common.{◌≡◌, Bool, true, false, refl, Option, Some, None}
use Rattle.dv_syntax.specs.declared.tree.OperatorClass.{OperatorClass}
use Rattle.dv_syntax.specs.declared.tree.OperatorClass.TheVariants.{Logic, Equality, Order, Arithmetic}
use Rattle.dv_bag.specs.declared.value.ValueType.{ValueType}
use Rattle.dv_bag.specs.declared.value.ValueType.TheVariants.{Number, Truth}
use Rattle.dv_check.specs.Types.{alike, both_of, is_of, type_by, type_if}
use Rattle.law_accepted.proofs.Fitting.{both_true}

pub type_given : (b : Bool) (given t : ValueType) → type_if b given ≡ Some t → (b ≡ true) × (given ≡ t)
type_given true given t typed = (refl, cc)
type_given false given t typed = absurd (cc)

pub type_wanted : (wanted : ValueType) (o : Option ValueType) → is_of wanted o ≡ true → o ≡ Some wanted
type_wanted wanted None is = absurd (cc)
type_wanted Number (Some Number) is = refl
type_wanted Number (Some Truth) is = absurd (cc)
type_wanted Truth (Some Number) is = absurd (cc)
type_wanted Truth (Some Truth) is = refl

pub both_wanted : (wanted given t : ValueType) (x y : Option ValueType) → type_if (both_of wanted x y) given ≡ Some t
    → (x ≡ Some wanted) × (y ≡ Some wanted) × (given ≡ t)
both_wanted wanted given t x y typed =
    let is = type_given (both_of wanted x y) given t typed in
    let both = both_true (is_of wanted x) (is_of wanted y) is.0 in
    (type_wanted wanted x both.0, type_wanted wanted y both.1, is.1)

both_alike : (x y : Option ValueType) → alike x y ≡ true → (u : ValueType) × (x ≡ Some u) × (y ≡ Some u)
both_alike None y is = absurd (cc)
both_alike (Some u) y is = (u, refl, type_wanted u y is)

pub alike_wanted : (t : ValueType) (x y : Option ValueType) → type_if (alike x y) Truth ≡ Some t
    → (u : ValueType) × (x ≡ Some u) × (y ≡ Some u) × (Truth ≡ t)
alike_wanted t x y typed =
    let is = type_given (alike x y) Truth t typed in
    let both = both_alike x y is.0 in
    (both.0, both.1, both.2, is.1)

-- both operands of an operator that gives a type have one
pub record OperandTypes (x y : Option ValueType) : Type 0 where
  pub left : ValueType
  pub left_is : x ≡ Some left
  pub right : ValueType
  pub right_is : y ≡ Some right

both_of_type : (wanted given t : ValueType) (x y : Option ValueType) → type_if (both_of wanted x y) given ≡ Some t → OperandTypes x y
both_of_type wanted given t x y typed =
    let both = both_wanted wanted given t x y typed in
    record { left = wanted; left_is = both.0; right = wanted; right_is = both.1 }

both_of_one_type : (t : ValueType) (x y : Option ValueType) → type_if (alike x y) Truth ≡ Some t → OperandTypes x y
both_of_one_type t x y typed =
    let both = alike_wanted t x y typed in
    record { left = both.0; left_is = both.1; right = both.0; right_is = both.2 }

pub operand_types : (c : OperatorClass) (x y : Option ValueType) (t : ValueType) → type_by c x y ≡ Some t → OperandTypes x y
operand_types Logic x y t typed = both_of_type Truth Truth t x y typed
operand_types Equality x y t typed = both_of_one_type t x y typed
operand_types Order x y t typed = both_of_type Number Truth t x y typed
operand_types Arithmetic x y t typed = both_of_type Number Number t x y typed
