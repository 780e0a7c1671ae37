-- From the trees of a text, whose names a scope knows, to trees in which every name is an index.
use Rattle.std.specs.Prelude.{ℕ, ◌==◌, pos, if◌then◌else◌, unwrap_or, List, [], ◌∷◌, length, map, option_map, slice_get, Option, Some, None}
use Rattle.dv_syntax.specs.Trees.{AtomicTree, Expression as NamedExpression, Literal, TruthValue, Named, Parens, Prefixed, Binary}
use Rattle.dv_syntax.specs.Trees.{Call, Elapsed, Times, Statements as NamedStatements, Done as Ended, Assign, Does, Send}
use Rattle.dv_syntax.specs.Trees.{If as IfOnly, IfElse, For as Each, Changes}
use Rattle.dv_syntax.specs.declared.tree.Prefix.TheVariants as prefix
use Rattle.dv_syntax.specs.declared.tree.Operator.{Operator}
use Rattle.dv_syntax.specs.declared.tree.Operator.TheVariants as operator
use Rattle.dv_syntax.specs.declared.tree.BagCall.{BagCall}
use Rattle.dv_syntax.specs.declared.tree.BagCall.TheVariants as call
use Rattle.dv_syntax.specs.declared.tree.Command.{Command}
use Rattle.dv_syntax.specs.declared.tree.Command.TheVariants as command
use Rattle.dv_syntax.specs.declared.tree.RuleSort.{RuleSort}
use Rattle.dv_syntax.specs.declared.tree.RuleSort.TheVariants as rule
use Rattle.dv_bag.specs.declared.discipline.Discipline.{Discipline}
use Rattle.dv_bag.specs.declared.discipline.Discipline.TheVariants as discipline
use Rattle.dv_bag.specs.declared.value.ValueType.{ValueType}
use Rattle.dv_bag.specs.declared.value.ValueType.TheVariants as type
use Rattle.dv_eval.specs.Scope.{Scope, names_of, index_of, scope_of}
use Rattle.dv_eval.specs.declared.scope.Domain.{Domain}
use Rattle.law_accepted.specs.Gotos.{gotos_in}
use Rattle.dv_eval.specs.declared.scope.Domain.TheVariants as domain
use Rattle.dv_code.specs.Shape.{Shape, Tables, shape_of}
use Rattle.dv_code.specs.declared.shape.ProgramSort.{ProgramSort}
use Rattle.dv_code.specs.declared.shape.ProgramSort.TheVariants as sort
use Rattle.dv_code.specs.declared.shape.Slot.{Slot}
use Rattle.dv_code.specs.declared.shape.Slot.TheVariants as slot
use Rattle.dv_code.specs.declared.instruction.Source.{Source}
use Rattle.dv_code.specs.declared.instruction.Source.TheVariants.{Own, Port}
use Rattle.dv_code.specs.declared.instruction.Leaf.{Leaf}
use Rattle.dv_code.specs.declared.instruction.Leaf.TheVariants as leaf
use Rattle.dv_code.specs.declared.instruction.Unary.TheVariants as unary
use Rattle.dv_code.specs.declared.instruction.Binary.{Binary as Operation}
use Rattle.dv_code.specs.declared.instruction.Binary.TheVariants as binary
use Rattle.dv_code.specs.declared.instruction.Action.{Action}
use Rattle.dv_code.specs.declared.instruction.Action.TheVariants as action
use Rattle.dv_code.specs.declared.instruction.Deed.{Deed}
use Rattle.dv_code.specs.declared.instruction.Deed.TheVariants.{Go, Pop}
use Rattle.dv_gen.specs.Resolved.{Expression, Read, Prefix, Infix, And, Or, Statements, Done, Act, Obey, When, If, For, type_of}

-- the domain of a slot
abbrev pub slot_of : Domain → Slot
slot_of (domain.Number range) = slot.Ranged range.low range.high
slot_of (domain.Flag start) = slot.Flagged
slot_of (domain.Held d capacity) = slot.Holding d capacity

-- the tables of a model, which its programs use
abbrev pub tables_of : Scope → Tables
tables_of scope = record {
  slots = map (λ v. slot_of v.1) scope.variables;
  inputs = length scope.inputs;
  outputs = length scope.outputs;
  phases = length scope.phases;
}

abbrev pub program_sort : RuleSort → ProgramSort
program_sort rule.Output = sort.Output
program_sort rule.Internal = sort.Internal
program_sort rule.External = sort.External
program_sort rule.Confluent = sort.Confluent

abbrev pub rule_shape : Scope → RuleSort → Shape
rule_shape scope s = shape_of (tables_of scope) (program_sort s)

abbrev pub hold_shape : Scope → Shape
hold_shape scope = shape_of (tables_of scope) sort.Hold

-- the index of a name, or the first
abbrev pub index_or_first : Option ℕ → ℕ
index_or_first index = unwrap_or index 0

-- the domain of the state variable at an index
abbrev pub domain_at : Scope → Option ℕ → Option Domain
domain_at scope None = None
domain_at scope (Some index) = option_map (λ v. v.1) (slice_get scope.variables index)

-- the discipline of a state variable; that of bags if it holds no collection
abbrev pub discipline_in : Option Domain → Discipline
discipline_in None = discipline.Bag
discipline_in (Some (domain.Number range)) = discipline.Bag
discipline_in (Some (domain.Flag start)) = discipline.Bag
discipline_in (Some (domain.Held d capacity)) = d

-- where a collection is read: a bag or a queue of the state, or an input port
abbrev pub source_between : Scope → Option ℕ → Option ℕ → Source
source_between scope (Some index) port = Own (discipline_in (domain_at scope (Some index))) index
source_between scope None port = Port (index_or_first port)

abbrev pub source_of : Scope → ℕ → Source
source_of scope name = source_between scope (index_of name (names_of scope.variables)) (index_of name scope.inputs)

-- the number of the innermost loop of a variable, counted from the outermost; the list has the innermost first
abbrev pub loop_of : ℕ → List ℕ → Option ℕ
loop_of name [] = None
loop_of name (v ∷ loops) = if v == name then Some (length loops) else loop_of name loops

abbrev pub leaf_in : ℕ → Option Domain → Leaf
leaf_in index None = leaf.Number (pos 0)
leaf_in index (Some (domain.Number range)) = leaf.Variable index
leaf_in index (Some (domain.Flag start)) = leaf.Flag index
leaf_in index (Some (domain.Held d capacity)) = leaf.Number (pos 0)

abbrev pub leaf_at : Scope → Option ℕ → Leaf
leaf_at scope index = leaf_in (index_or_first index) (domain_at scope index)

abbrev pub leaf_by : Option ℕ → Leaf → Leaf
leaf_by None l = l
leaf_by (Some loop) l = leaf.Item loop

-- what a name denotes: the innermost loop variable of that name, else a variable or a flag
abbrev pub leaf_of : Scope → List ℕ → ℕ → Leaf
leaf_of scope loops name = leaf_by (loop_of name loops) (leaf_at scope (index_of name (names_of scope.variables)))

-- the first value of a queue; a port is no queue, and gives 0
abbrev pub front_of : Source → Leaf
front_of (Own d index) = leaf.Front index
front_of (Port port) = leaf.Number (pos 0)

abbrev pub call_leaf : BagCall → Source → Leaf
call_leaf call.Size s = leaf.Size s
call_leaf call.Sum s = leaf.Sum s
call_leaf call.Least s = leaf.Least s
call_leaf call.Most s = leaf.Most s
call_leaf call.Front s = front_of s

-- equal and unequal, of numbers or of truth values
abbrev pub equal_of : ValueType → Operation
equal_of type.Number = binary.Equal
equal_of type.Truth = binary.Same

abbrev pub unequal_of : ValueType → Operation
unequal_of type.Number = binary.Unequal
unequal_of type.Truth = binary.Different

-- an operator between two resolved operands
abbrev pub infix_of : Operator → Expression → Expression → Expression
infix_of operator.Or a b = Or a b
infix_of operator.And a b = And a b
infix_of operator.Add a b = Infix binary.Add a b
infix_of operator.Subtract a b = Infix binary.Subtract a b
infix_of operator.Multiply a b = Infix binary.Multiply a b
infix_of operator.Divide a b = Infix binary.Divide a b
infix_of operator.Remainder a b = Infix binary.Remainder a b
infix_of operator.Equal a b = Infix (equal_of (type_of a)) a b
infix_of operator.Unequal a b = Infix (unequal_of (type_of a)) a b
infix_of operator.Less a b = Infix binary.Less a b
infix_of operator.AtMost a b = Infix binary.AtMost a b
infix_of operator.Greater a b = Infix binary.Greater a b
infix_of operator.AtLeast a b = Infix binary.AtLeast a b

-- an expression in loops with these variables, the innermost first; parentheses are left out
abbrev pub resolved : Scope → List ℕ → NamedExpression → Expression
resolved scope loops (Literal n) = Read (leaf.Number (pos n.value))
resolved scope loops (TruthValue offset b) = Read (leaf.Truth b)
resolved scope loops (Named name) = Read (leaf_of scope loops name.number)
resolved scope loops (Parens offset e) = resolved scope loops e
resolved scope loops (Prefixed prefix.Minus offset e) = Prefix unary.Negate (resolved scope loops e)
resolved scope loops (Prefixed prefix.Not offset e) = Prefix unary.Not (resolved scope loops e)
resolved scope loops (Binary o a b) = infix_of o (resolved scope loops a) (resolved scope loops b)
resolved scope loops (Call c offset b) = Read (call_leaf c (source_of scope b.number))
resolved scope loops (Elapsed offset) = Read leaf.Elapsed
resolved scope loops (Times offset e b) = Prefix (unary.Times (source_of scope b.number)) (resolved scope loops e)

-- an assignment to the state variable of a name
abbrev pub assignment_in : ℕ → Option Domain → Action
assignment_in index None = action.SetVariable index
assignment_in index (Some (domain.Number range)) = action.SetVariable index
assignment_in index (Some (domain.Flag start)) = action.SetFlag index
assignment_in index (Some (domain.Held d capacity)) = action.SetVariable index

abbrev pub assignment_at : Scope → Option ℕ → Action
assignment_at scope index = assignment_in (index_or_first index) (domain_at scope index)

-- the index of a state variable
abbrev pub slot_index : Scope → ℕ → ℕ
slot_index scope name = index_or_first (index_of name (names_of scope.variables))

-- the deed of a command with a name: to go to a phase, or to remove the first value of a queue
abbrev pub deed_of : Scope → Command → ℕ → Deed
deed_of scope command.Goto name = Go (index_or_first (index_of name scope.phases))
deed_of scope command.Pop name = Pop (slot_index scope name)

-- a choice between blocks; an empty second one is left out
abbrev pub choice : Expression → Statements → Statements → Statements → Statements
choice condition block Done rest = When condition block rest
choice condition block other rest = If condition block other rest

-- statements in loops with these variables
abbrev pub all_resolved : Scope → List ℕ → NamedStatements → Statements
all_resolved scope loops Ended = Done
all_resolved scope loops (Assign variable e rest) =
    Act (assignment_at scope (index_of variable.number (names_of scope.variables))) (resolved scope loops e) (all_resolved scope loops rest)
all_resolved scope loops (Does c offset name rest) = Obey (deed_of scope c name.number) (all_resolved scope loops rest)
all_resolved scope loops (Send offset port e rest) =
    Act (action.Send (index_or_first (index_of port.number scope.outputs))) (resolved scope loops e) (all_resolved scope loops rest)
all_resolved scope loops (IfOnly offset e block rest) =
    When (resolved scope loops e) (all_resolved scope loops block) (all_resolved scope loops rest)
all_resolved scope loops (IfElse offset e block other rest) =
    choice (resolved scope loops e) (all_resolved scope loops block) (all_resolved scope loops other) (all_resolved scope loops rest)
all_resolved scope loops (Each offset v b block rest) =
    For (source_of scope b.number) (all_resolved scope (v.number ∷ loops) block) (all_resolved scope loops rest)
all_resolved scope loops (Changes c offset e collection rest) =
    Act (action.Change c (slot_index scope collection.number)) (resolved scope loops e) (all_resolved scope loops rest)

-- the indices of the phases to which statements go, in the order of the text
abbrev pub goto_indices : Scope → NamedStatements → List ℕ
goto_indices scope body = map (λ name. index_or_first (index_of name scope.phases)) (gotos_in body)

-- the tree of a rule, and that of a hold
abbrev pub rule_tree : AtomicTree → NamedStatements → Statements
rule_tree m body = all_resolved (scope_of m) [] body

abbrev pub hold_tree : AtomicTree → NamedExpression → Expression
hold_tree m e = resolved (scope_of m) [] e
