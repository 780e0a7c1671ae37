-- The types of expressions, and what is wrong with an expression.
use Rattle.std.specs.Prelude.{ℕ, Bool, true, false, not, ◌&&◌, if◌then◌else◌, List, [], ◌∷◌, ◌++◌, Option, Some, None}
use Rattle.dv_lex.specs.declared.error.Refusal.{Refusal}
use Rattle.dv_lex.specs.declared.error.RefusalNumber.TheVariants.{E7, E8, E9}
use Rattle.dv_syntax.specs.Trees.{Expression, Literal, TruthValue, Named, Parens, Prefixed, Binary, Call, Elapsed, Times}
use Rattle.dv_syntax.specs.declared.tree.Prefix.{Prefix}
use Rattle.dv_syntax.specs.declared.tree.Prefix.TheVariants.{Minus, Not}
use Rattle.dv_syntax.specs.declared.tree.BagCall.{BagCall}
use Rattle.dv_syntax.specs.declared.tree.BagCall.TheVariants as call
use Rattle.dv_syntax.specs.declared.tree.OperatorClass.{OperatorClass}
use Rattle.dv_syntax.specs.declared.tree.OperatorClass.TheVariants.{Logic, Equality, Order, Arithmetic}
use Rattle.dv_syntax.specs.Operators.{class_of}
use Rattle.dv_syntax.specs.declared.tree.RuleSort.{RuleSort}
use Rattle.dv_syntax.specs.declared.tree.RuleSort.TheVariants as rule
use Rattle.dv_check.specs.declared.declarations.NameSort.{NameSort}
use Rattle.dv_check.specs.declared.declarations.NameSort.TheVariants.{Variable, Flag, Held, Input, Output, LoopVariable}
use Rattle.dv_check.specs.declared.wanted.Wanted.{Wanted}
use Rattle.dv_check.specs.declared.wanted.Wanted.TheVariants as wanted
use Rattle.dv_bag.specs.Collections.{same_discipline}
use Rattle.dv_bag.specs.declared.discipline.Discipline.{Discipline}
use Rattle.dv_bag.specs.declared.discipline.Discipline.TheVariants as discipline
use Rattle.dv_bag.specs.declared.value.ValueType.{ValueType}
use Rattle.dv_bag.specs.declared.value.ValueType.TheVariants.{Number, Truth}
use Rattle.dv_check.specs.Names.{refusal, refusal_if}

-- what is known at a place in an atomic model: what ports, variables, flags, bags, queues and loop variables denote, where they are
-- declared, the phases, and the sort of the rule around; a hold is in no rule
pub record Known : Type 0 where
  pub sort : ℕ → Option NameSort
  pub offset : ℕ → Option ℕ
  pub has_phase : ℕ → Bool
  pub rule : Option RuleSort

-- `elapsed` is known only in external rules
abbrev pub knows_elapsed : Option RuleSort → Bool
knows_elapsed None = false
knows_elapsed (Some rule.Output) = false
knows_elapsed (Some rule.Internal) = false
knows_elapsed (Some rule.External) = true
knows_elapsed (Some rule.Confluent) = false

-- and the values at input ports in external and confluent ones
abbrev pub sees_inputs : Option RuleSort → Bool
sees_inputs None = false
sees_inputs (Some rule.Output) = false
sees_inputs (Some rule.Internal) = false
sees_inputs (Some rule.External) = true
sees_inputs (Some rule.Confluent) = true

abbrev pub same_type : ValueType → ValueType → Bool
same_type Number Number = true
same_type Truth Truth = true
same_type Number Truth = false
same_type Truth Number = false

-- the offset of an expression's first token
abbrev pub first_offset : Expression → ℕ
first_offset (Literal n) = n.offset
first_offset (TruthValue offset value) = offset
first_offset (Named name) = name.offset
first_offset (Parens offset e) = offset
first_offset (Prefixed operator offset e) = offset
first_offset (Binary operator a b) = first_offset a
first_offset (Call c offset bag) = offset
first_offset (Elapsed offset) = offset
first_offset (Times offset e bag) = offset

abbrev pub type_of_name : Option NameSort → Option ValueType
type_of_name None = None
type_of_name (Some Variable) = Some Number
type_of_name (Some Flag) = Some Truth
type_of_name (Some (Held d)) = None
type_of_name (Some Input) = None
type_of_name (Some Output) = None
type_of_name (Some LoopVariable) = Some Number

-- what a call reads: a bag, a queue, or either
abbrev pub wanted_by : BagCall → Wanted
wanted_by call.Size = wanted.Values
wanted_by call.Sum = wanted.Bag
wanted_by call.Least = wanted.Bag
wanted_by call.Most = wanted.Bag
wanted_by call.Front = wanted.Queue

-- whether a collection of a discipline is suitable
abbrev pub suits : Wanted → Discipline → Bool
suits wanted.Values d = true
suits wanted.Bag d = same_discipline d discipline.Bag
suits wanted.Queue d = same_discipline d discipline.Queue

-- an input port is a bag
abbrev pub suits_port : Wanted → Bool
suits_port w = suits w discipline.Bag

-- a name of a suitable collection that can be read: of the state, or an input port if inputs can be read
abbrev pub is_readable : Wanted → Option RuleSort → Option NameSort → Bool
is_readable w rule None = false
is_readable w rule (Some Variable) = false
is_readable w rule (Some Flag) = false
is_readable w rule (Some (Held d)) = suits w d
is_readable w rule (Some Input) = suits_port w && sees_inputs rule
is_readable w rule (Some Output) = false
is_readable w rule (Some LoopVariable) = false

-- a known type, and this one
abbrev pub is_of : ValueType → Option ValueType → Bool
is_of wanted None = false
is_of wanted (Some t) = same_type wanted t

-- two operands of one type, both known
abbrev pub alike : Option ValueType → Option ValueType → Bool
alike None b = false
alike (Some a) b = is_of a b

abbrev pub type_if : Bool → ValueType → Option ValueType
type_if true t = Some t
type_if false t = None

-- two operands of this type
abbrev pub both_of : ValueType → Option ValueType → Option ValueType → Bool
both_of wanted a b = is_of wanted a && is_of wanted b

-- the type of the operand and of the result of a prefix operator
abbrev pub type_of_prefix : Prefix → ValueType
type_of_prefix Minus = Number
type_of_prefix Not = Truth

-- the type of the result of an operator, if its operands have the right types
abbrev pub type_by : OperatorClass → Option ValueType → Option ValueType → Option ValueType
type_by Logic a b = type_if (both_of Truth a b) Truth
type_by Equality a b = type_if (alike a b) Truth
type_by Order a b = type_if (both_of Number a b) Truth
type_by Arithmetic a b = type_if (both_of Number a b) Number

-- the type of an expression; none if it, or a part of it, is refused
abbrev pub type_of : Known → Expression → Option ValueType
type_of known (Literal n) = Some Number
type_of known (TruthValue offset value) = Some Truth
type_of known (Named name) = type_of_name (known.sort name.number)
type_of known (Parens offset e) = type_of known e
type_of known (Prefixed operator offset e) = type_if (is_of (type_of_prefix operator) (type_of known e)) (type_of_prefix operator)
type_of known (Binary operator a b) = type_by (class_of operator) (type_of known a) (type_of known b)
type_of known (Call c offset bag) = type_if (is_readable (wanted_by c) known.rule (known.sort bag.number)) Number
type_of known (Elapsed offset) = type_if (knows_elapsed known.rule) Number
type_of known (Times offset e bag) =
    type_if (is_of Number (type_of known e) && is_readable wanted.Bag known.rule (known.sort bag.number)) Number

-- an expression of another type than is wanted
abbrev pub type_refusals : ValueType → Option ValueType → ℕ → List Refusal
type_refusals wanted None offset = []
type_refusals wanted (Some t) offset = refusal_if (not (same_type wanted t)) E8 offset

abbrev pub differ : Option ValueType → Option ValueType → Bool
differ None b = false
differ (Some a) None = false
differ (Some a) (Some b) = not (same_type a b)

-- two operands that both should have a type
abbrev pub operands_wanted : ValueType → Option ValueType → ℕ → Option ValueType → ℕ → List Refusal
operands_wanted wanted a a_offset b b_offset = type_refusals wanted a a_offset ++ type_refusals wanted b b_offset

-- what is wrong with the operands of an operator, which begin at these offsets
abbrev pub operand_refusals : OperatorClass → Option ValueType → ℕ → Option ValueType → ℕ → List Refusal
operand_refusals Logic a a_offset b b_offset = operands_wanted Truth a a_offset b b_offset
operand_refusals Equality a a_offset b b_offset = refusal_if (differ a b) E8 b_offset
operand_refusals Order a a_offset b b_offset = operands_wanted Number a a_offset b b_offset
operand_refusals Arithmetic a a_offset b b_offset = operands_wanted Number a a_offset b b_offset

-- a name where a value is wanted: it must be a variable, a flag or a loop variable
abbrev pub value_name_refusals : Option NameSort → ℕ → List Refusal
value_name_refusals None offset = refusal E7 offset ∷ []
value_name_refusals (Some Variable) offset = []
value_name_refusals (Some Flag) offset = []
value_name_refusals (Some (Held d)) offset = refusal E8 offset ∷ []
value_name_refusals (Some Input) offset = refusal E8 offset ∷ []
value_name_refusals (Some Output) offset = refusal E8 offset ∷ []
value_name_refusals (Some LoopVariable) offset = []

-- an input port where a collection is wanted: it is a bag, which can be read only in external and confluent rules
abbrev pub port_refusals : Wanted → Option RuleSort → ℕ → List Refusal
port_refusals w rule offset = if suits_port w then refusal_if (not (sees_inputs rule)) E9 offset else refusal E8 offset ∷ []

-- a name where a collection is read
abbrev pub held_name_refusals : Wanted → Option RuleSort → Option NameSort → ℕ → List Refusal
held_name_refusals w rule None offset = refusal E7 offset ∷ []
held_name_refusals w rule (Some Variable) offset = refusal E8 offset ∷ []
held_name_refusals w rule (Some Flag) offset = refusal E8 offset ∷ []
held_name_refusals w rule (Some (Held d)) offset = refusal_if (not (suits w d)) E8 offset
held_name_refusals w rule (Some Input) offset = port_refusals w rule offset
held_name_refusals w rule (Some Output) offset = refusal E8 offset ∷ []
held_name_refusals w rule (Some LoopVariable) offset = refusal E8 offset ∷ []

abbrev pub expression_refusals : Known → Expression → List Refusal
expression_refusals known (Literal n) = []
expression_refusals known (TruthValue offset value) = []
expression_refusals known (Named name) = value_name_refusals (known.sort name.number) name.offset
expression_refusals known (Parens offset e) = expression_refusals known e
expression_refusals known (Prefixed operator offset e) =
    expression_refusals known e ++ type_refusals (type_of_prefix operator) (type_of known e) (first_offset e)
expression_refusals known (Binary operator a b) =
    expression_refusals known a
    ++ (expression_refusals known b
    ++ operand_refusals (class_of operator) (type_of known a) (first_offset a) (type_of known b) (first_offset b))
expression_refusals known (Call c offset bag) = held_name_refusals (wanted_by c) known.rule (known.sort bag.number) bag.offset
expression_refusals known (Elapsed offset) = refusal_if (not (knows_elapsed known.rule)) E9 offset
expression_refusals known (Times offset e bag) =
    expression_refusals known e
    ++ (type_refusals Number (type_of known e) (first_offset e)
    ++ held_name_refusals wanted.Bag known.rule (known.sort bag.number) bag.offset)

-- an expression that must have a given type
abbrev pub offset_refusals : ValueType → Known → Expression → List Refusal
offset_refusals wanted known e = expression_refusals known e ++ type_refusals wanted (type_of known e) (first_offset e)

-- an expression that must have a given type, or may have any
abbrev pub value_refusals : Option ValueType → Known → Expression → List Refusal
value_refusals None known e = expression_refusals known e
value_refusals (Some wanted) known e = offset_refusals wanted known e
