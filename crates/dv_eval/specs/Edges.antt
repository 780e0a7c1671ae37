-- Expressions without names: at the edges of 64 bits, and comparisons of numbers.
use Rattle.std.specs.Prelude.{ℕ, [], Result}
use Rattle.dv_syntax.specs.Trees.{Expression, Literal, Parens, Binary}
use Rattle.dv_syntax.specs.declared.tree.Operator.TheVariants.{Add, Subtract, Divide, Equal}
use Rattle.dv_bag.specs.declared.fault.Fault.{Fault}
use Rattle.dv_bag.specs.declared.value.Value.{Value}
use Rattle.dv_eval.specs.Scope.{nothing_declared}
use Rattle.dv_bag.specs.Arrivals.{nothing_arrived}
use Rattle.dv_eval.specs.Meaning.{meaning, moment_in, outermost}

abbrev pub number : ℕ → Expression
number n = Literal (record { value = n; offset = 1 })

-- 0 less a number, in parentheses
abbrev pub minus : ℕ → Expression
minus n = Parens 1 (Binary Subtract (number 0) (number n))

abbrev pub greatest : Expression
greatest = number 9223372036854775807

-- (0 - 9223372036854775807 - 1)
abbrev pub least : Expression
least = Parens 1 (Binary Subtract (Binary Subtract (number 0) greatest) (number 1))

-- one more than the greatest number
abbrev pub too_great : Expression
too_great = Parens 1 (Binary Add greatest (number 1))

abbrev pub by_nothing : Expression
by_nothing = Parens 1 (Binary Divide (number 1) (number 0))

-- 1 = 1
abbrev pub holding : Expression
holding = Binary Equal (number 1) (number 1)

-- 1 = 2
abbrev pub failing : Expression
failing = Binary Equal (number 1) (number 2)

-- 1 / 0 = 1
abbrev pub faulty : Expression
faulty = Binary Equal (Binary Divide (number 1) (number 0)) (number 1)

-- the value where nothing is declared
abbrev pub value : Expression → Result Value Fault
value e = meaning nothing_declared (moment_in (outermost nothing_arrived) (record { phase = 0; variables = [] })) e
