-- Programs that grow at their end, the loops around a statement, and the number of names.
use Rattle.std.specs.Prelude.{◌≡◌, ℕ, ◌≤◌, List, [], ◌∷◌, ◌++◌, length, slice_set}
use Rattle.dv_syntax.specs.Grammar.{loop_depth}
use Rattle.dv_syntax.specs.Trees.{Expression as NamedExpression, Statements as NamedStatements}
use Rattle.dv_syntax.specs.declared.tree.Prefix.{Prefix}
use Rattle.dv_syntax.specs.declared.tree.Prefix.TheVariants as prefix
use Rattle.dv_syntax.specs.declared.tree.RuleSort.{RuleSort}
use Rattle.dv_bag.specs.declared.value.ValueType.TheVariants.{Number}
use Rattle.dv_code.specs.Limits.{deepest_loops}
use Rattle.dv_code.specs.Valid.{Program}
use Rattle.dv_code.specs.declared.instruction.Unary.{Unary}
use Rattle.dv_code.specs.declared.instruction.Unary.TheVariants as unary
use Rattle.dv_code.specs.declared.instruction.Instruction.{Instruction}
use Rattle.dv_code.specs.declared.instruction.Instruction.TheVariants.{Jump}
use Rattle.dv_check.specs.Limits.{greatest_names}
use Rattle.dv_eval.specs.Scope.{Scope}
use Rattle.dv_gen.specs.Resolved.{Expression, Infix, And, Or, Statements, AreTyped, IsTyped, type_of}
use Rattle.dv_gen.specs.Resolution.{all_resolved, hold_shape, resolved, rule_shape}
use Rattle.dv_gen.specs.Generator.{code_of, code_of_all, hold_program_of, program_of}
use Rattle.dv_gen.specs.declared.loops.Loops.{Loops}
use Rattle.dv_gen.specs.declared.loops.Loops.TheVariants as around
use Rattle.dv_gen.specs.declared.expression.Joint.{Joint}
use Rattle.dv_gen.specs.declared.expression.Joint.TheVariants as joint

-- a program with the code of an expression at its end
unfoldable pub with_expression : List Instruction → Expression → List Instruction
with_expression code e = code ++ code_of (length code) e

-- a program with the code of statements at its end
unfoldable pub with_statements : List Instruction → Statements → List Instruction
with_statements code body = code ++ code_of_all (length code) body

-- a program with the code of statements at its end, and with a jump past it in place of an instruction
unfoldable pub with_branch : List Instruction → ℕ → Statements → List Instruction
with_branch code jump body = slice_set (with_statements code body) jump (Jump (length (with_statements code body)))

-- the variables of the loops around, the innermost first
abbrev pub loops_of : Loops → List ℕ
loops_of around.Outermost = []
loops_of (around.Within' variable p outer) = variable ∷ loops_of outer

-- the operator of an instruction for a prefix operator
abbrev pub unary_of : Prefix → Unary
unary_of prefix.Minus = unary.Negate
unary_of prefix.Not = unary.Not

-- two operands and what joins them
abbrev pub junction : Joint → Expression → Expression → Expression
junction joint.IfTrue a b = And a b
junction joint.IfFalse a b = Or a b
junction (joint.Operation o) a b = Infix o a b

-- there are not too many names of any kind
pub record HasFewNames (scope : Scope) : Type 0 where
  pub variables : length scope.variables ≤ greatest_names
  pub phases : length scope.phases ≤ greatest_names
  pub inputs : length scope.inputs ≤ greatest_names
  pub outputs : length scope.outputs ≤ greatest_names

-- what the program of a rule is for statements, and that of a hold for an expression, in a scope
abbrev pub rule_code : Scope → RuleSort → NamedStatements → Program
rule_code scope sort body = record { shape = rule_shape scope sort; code = program_of (all_resolved scope [] body) }

abbrev pub hold_code : Scope → NamedExpression → Program
hold_code scope e = record { shape = hold_shape scope; code = hold_program_of (resolved scope [] e) }

-- statements that a rule of a sort may have: well typed, with loops that are not nested too deeply
pub record IsRuleBody (scope : Scope) (sort : RuleSort) (body : NamedStatements) : Type 0 where
  pub shallow : loop_depth body ≤ deepest_loops
  pub typed : AreTyped (rule_shape scope sort) (loop_depth body) 0 (all_resolved scope [] body)

-- an expression that a hold may have: a well typed number
pub record IsHoldTicks (scope : Scope) (e : NamedExpression) : Type 0 where
  pub number : type_of (resolved scope [] e) ≡ Number
  pub typed : IsTyped (hold_shape scope) 0 (resolved scope [] e)
