-- The classes of operators: what an operator takes, and what it gives.
use Rattle.std.specs.Prelude.{Bool, true, false}
use Rattle.dv_syntax.specs.declared.tree.Operator.{Operator}
use Rattle.dv_syntax.specs.declared.tree.Operator.TheVariants as operator
use Rattle.dv_syntax.specs.declared.tree.OperatorClass.{OperatorClass}
use Rattle.dv_syntax.specs.declared.tree.OperatorClass.TheVariants.{Logic, Equality, Order, Arithmetic}

abbrev pub class_of : Operator → OperatorClass
class_of operator.Or = Logic
class_of operator.And = Logic
class_of operator.Add = Arithmetic
class_of operator.Subtract = Arithmetic
class_of operator.Multiply = Arithmetic
class_of operator.Divide = Arithmetic
class_of operator.Remainder = Arithmetic
class_of operator.Equal = Equality
class_of operator.Unequal = Equality
class_of operator.Less = Order
class_of operator.AtMost = Order
class_of operator.Greater = Order
class_of operator.AtLeast = Order

abbrev pub is_comparison : OperatorClass → Bool
is_comparison Logic = false
is_comparison Equality = true
is_comparison Order = true
is_comparison Arithmetic = false
