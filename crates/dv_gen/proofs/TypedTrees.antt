-- What is accepted is well typed where its names are indices.
use Rattle.std.proofs.Common.{◌≡◌, ℕ, ◌+◌, ◌≤◌, Bool, true, false, ◌&&◌, List, [], ◌∷◌, length, refl, sym, ap, subst, ◌∙◌, Option, Some}
use Rattle.std.proofs.Common.{None, IfSome, arith}
use Rattle.std.specs.List.{All}
use Rattle.dv_syntax.specs.Operators.{class_of}
use Rattle.dv_syntax.specs.Grammar.{loop_depth}
use Rattle.dv_syntax.specs.Trees.{AtomicTree, HoldTree, RuleTree, Expression as NamedExpression, Literal, TruthValue, Named}
use Rattle.dv_syntax.specs.Trees.{Parens, Prefixed, Binary, Call, Elapsed, Times, Statements as NamedStatements, Done as Ended}
use Rattle.dv_syntax.specs.Trees.{Assign, Does, Send, If as IfOnly, IfElse, For as Each, Changes}
use Rattle.dv_syntax.specs.declared.tree.Command.{Command}
use Rattle.dv_syntax.specs.declared.tree.Command.TheVariants as command
use Rattle.dv_syntax.specs.declared.tree.Name.{Name}
use Rattle.dv_syntax.specs.declared.tree.BagCall.{BagCall}
use Rattle.dv_syntax.specs.declared.tree.BagCall.TheVariants as call
use Rattle.dv_syntax.specs.declared.tree.Prefix.TheVariants as prefix
use Rattle.dv_syntax.specs.declared.tree.Operator.{Operator}
use Rattle.dv_syntax.specs.declared.tree.Operator.TheVariants as operator
use Rattle.dv_syntax.specs.declared.tree.RuleSort.{RuleSort}
use Rattle.dv_syntax.specs.declared.tree.RuleSort.TheVariants as rule
use Rattle.dv_bag.specs.Collections.{discipline_of_change}
use Rattle.dv_bag.specs.declared.discipline.Change.{Change}
use Rattle.dv_bag.specs.declared.discipline.Discipline.{Discipline}
use Rattle.dv_bag.specs.declared.discipline.Discipline.TheVariants as discipline
use Rattle.dv_bag.specs.declared.value.ValueType.{ValueType}
use Rattle.dv_bag.specs.declared.value.ValueType.TheVariants.{Number, Truth}
use Rattle.dv_eval.specs.Scope.{Scope, names_of, index_of, scope_of}
use Rattle.dv_eval.specs.declared.scope.Domain.TheVariants as domain
use Rattle.dv_check.specs.declared.declarations.NameSort.{NameSort}
use Rattle.dv_check.specs.declared.declarations.NameSort.TheVariants.{Variable as ForVariable, Flag as ForFlag, Held as ForHeld}
use Rattle.dv_check.specs.declared.declarations.NameSort.TheVariants.{Input as ForInput, Output as ForOutput}
use Rattle.dv_check.specs.declared.declarations.NameSort.TheVariants.{LoopVariable as ForLoopVariable}
use Rattle.dv_check.specs.declared.wanted.Wanted.{Wanted}
use Rattle.dv_check.specs.declared.wanted.Wanted.TheVariants as want
use Rattle.dv_check.specs.Rules.{atomic_refusals, command_name_refusals, is_output_rule, known_in, known_in_loop, known_in_rule}
use Rattle.dv_check.specs.Rules.{statements_refusals}
use Rattle.dv_check.specs.Types.{Known, both_of, type_if, is_of, is_readable, knows_elapsed, offset_refusals, sees_inputs, suits}
use Rattle.dv_check.specs.Types.{suits_port, type_by, type_of_name, value_refusals, wanted_by, type_of as type_in_text}
use Rattle.dv_check.proofs.CheckedFiles.{not_false, not_refused}
use Rattle.law_accepted.proofs.Fitting.{both_true}
use Rattle.law_accepted.proofs.Typed.{index_typed}
use Rattle.dv_code.specs.Known.{IsBagOf, IsSourceOf, KnowsAction, KnowsDeed, action_type, is_bag_source, operand_type, result_type}
use Rattle.dv_code.specs.Shape.{Shape, may_change, may_read_elapsed, may_receive, may_send, shape_of}
use Rattle.dv_code.specs.declared.shape.ProgramSort.{ProgramSort}
use Rattle.dv_code.specs.declared.shape.ProgramSort.TheVariants as sort
use Rattle.dv_code.specs.declared.instruction.Source.{Source}
use Rattle.dv_code.specs.declared.instruction.Source.TheVariants.{Own, Port}
use Rattle.dv_code.specs.declared.instruction.Action.TheVariants as act
use Rattle.dv_code.specs.declared.instruction.Binary.{Binary as Operation}
use Rattle.dv_code.specs.declared.instruction.Binary.TheVariants as binary
use Rattle.dv_gen.specs.Resolution.{all_resolved, assignment_at, call_leaf, choice, deed_of, equal_of, hold_shape, hold_tree}
use Rattle.dv_gen.specs.Resolution.{infix_of, leaf_of, program_sort, resolved, rule_shape, rule_tree, slot_index, source_of, tables_of}
use Rattle.dv_gen.specs.Resolution.{unequal_of}
use Rattle.dv_gen.specs.Resolved.{Act, AreTyped, Done, Expression, For, If, Infix, IsTyped, Obey, Read, Statements, When, type_of}
use Rattle.dv_gen.proofs.OperandTypes.{alike_wanted, both_wanted, type_given, type_wanted}
use Rattle.dv_gen.proofs.Accepted.{AcceptedChange, accepted_assignment, accepted_change, accepted_command, accepted_if}
use Rattle.dv_gen.proofs.Accepted.{accepted_if_else, accepted_loop, accepted_send, each_hold, each_rule}
use Rattle.dv_gen.proofs.KnownNames.{Assigned, InputPort, Knows, OfState, Readable, Stands, StandsForHeld, ToFlag, ToVariable}
use Rattle.dv_gen.proofs.KnownNames.{assigned_stands, assigned_type, changed_stands, flag_assignment, flag_leaf, item_leaf}
use Rattle.dv_gen.proofs.KnownNames.{knows_inside, knows_outside, own_source, port_source, known_readable, sent_port_stands}
use Rattle.dv_gen.proofs.KnownNames.{slot_there, variable_assignment, variable_leaf}

-- ---- What a rule may do

-- what the program of a rule is for, or that of a hold, which stands in no rule
abbrev pub program_for : Option RuleSort → ProgramSort
program_for None = sort.Hold
program_for (Some s) = program_sort s

receives : (rule : Option RuleSort) → may_receive (program_for rule) ≡ sees_inputs rule
receives None = refl
receives (Some rule.Output) = refl
receives (Some rule.Internal) = refl
receives (Some rule.External) = refl
receives (Some rule.Confluent) = refl

reads_elapsed : (rule : Option RuleSort) → may_read_elapsed (program_for rule) ≡ knows_elapsed rule
reads_elapsed None = refl
reads_elapsed (Some rule.Output) = refl
reads_elapsed (Some rule.Internal) = refl
reads_elapsed (Some rule.External) = refl
reads_elapsed (Some rule.Confluent) = refl

changes : (s : RuleSort) → is_output_rule (Some s) ≡ false → may_change (program_sort s) ≡ true
changes rule.Output e = absurd (cc)
changes rule.Internal e = refl
changes rule.External e = refl
changes rule.Confluent e = refl

sends : (s : RuleSort) → is_output_rule (Some s) ≡ true → may_send (program_sort s) ≡ true
sends rule.Output e = refl
sends rule.Internal e = absurd (cc)
sends rule.External e = absurd (cc)
sends rule.Confluent e = absurd (cc)

-- ---- Expressions

-- an expression of a type, well typed within so many loops
abbrev pub HasType : Shape → ℕ → ValueType → Expression → Type 0
HasType shape inside t e = (type_of e ≡ t) × IsTyped shape inside e

-- a source where this is wanted
abbrev suits_source : Wanted → Source → Bool
suits_source w (Own d index) = suits w d
suits_source w (Port port) = suits_port w

-- one that the shape knows
abbrev IsWanted : Shape → Wanted → Source → Type 0
IsWanted shape w source = IsSourceOf shape source × (suits_source w source ≡ true)

bag_suits : (source : Source) → suits_source want.Bag source ≡ is_bag_source source
bag_suits (Own d index) = refl
bag_suits (Port port) = refl

-- where a bag is wanted it is a bag
bag_wanted : (shape : Shape) (source : Source) → IsWanted shape want.Bag source → IsBagOf shape source
bag_wanted shape source is = (is.0, sym (bag_suits source) ∙ is.1)

module _ (shape : Shape) (inside : ℕ) where
  infix_typed : (o : Operation) (t : ValueType) (a b : Expression) → result_type o ≡ t → HasType shape inside (operand_type o) a
      → HasType shape inside (operand_type o) b → HasType shape inside t (Infix o a b)
  infix_typed o t a b result left right = (result, (left.0, right.0, left.1, right.1))

  equal_typed : (u t : ValueType) (a b : Expression) → Truth ≡ t → HasType shape inside u a → HasType shape inside u b
      → HasType shape inside t (Infix (equal_of u) a b)
  equal_typed Number t a b same left right = infix_typed binary.Equal t a b same left right
  equal_typed Truth t a b same left right = infix_typed binary.Same t a b same left right

  unequal_typed : (u t : ValueType) (a b : Expression) → Truth ≡ t → HasType shape inside u a → HasType shape inside u b
      → HasType shape inside t (Infix (unequal_of u) a b)
  unequal_typed Number t a b same left right = infix_typed binary.Unequal t a b same left right
  unequal_typed Truth t a b same left right = infix_typed binary.Different t a b same left right

  -- operands that are well typed where they have a type, and an operator between them
  module _ (x y : Option ValueType) (t : ValueType) (a b : Expression)
      (left : (u : ValueType) → x ≡ Some u → HasType shape inside u a)
      (right : (u : ValueType) → y ≡ Some u → HasType shape inside u b) where
    of_numbers_typed : (o : Operation) (given : ValueType) → operand_type o ≡ Number → result_type o ≡ given
        → type_if (both_of Number x y) given ≡ Some t → HasType shape inside t (Infix o a b)
    of_numbers_typed o given takes result typed =
        let wanted = both_wanted Number given t x y typed in
        let one = left Number wanted.0 in
        let two = right Number wanted.1 in
        infix_typed o t a b (result ∙ wanted.2) (one.0 ∙ sym takes, one.1) (two.0 ∙ sym takes, two.1)

    operator_typed : (o : Operator) → type_by (class_of o) x y ≡ Some t → HasType shape inside t (infix_of o a b)
    operator_typed operator.Or typed =
        let wanted = both_wanted Truth Truth t x y typed in
        let one = left Truth wanted.0 in
        let two = right Truth wanted.1 in
        (wanted.2, (one.0, two.0, one.1, two.1))
    operator_typed operator.And typed =
        let wanted = both_wanted Truth Truth t x y typed in
        let one = left Truth wanted.0 in
        let two = right Truth wanted.1 in
        (wanted.2, (one.0, two.0, one.1, two.1))
    operator_typed operator.Add typed = of_numbers_typed binary.Add Number refl refl typed
    operator_typed operator.Subtract typed = of_numbers_typed binary.Subtract Number refl refl typed
    operator_typed operator.Multiply typed = of_numbers_typed binary.Multiply Number refl refl typed
    operator_typed operator.Divide typed = of_numbers_typed binary.Divide Number refl refl typed
    operator_typed operator.Remainder typed = of_numbers_typed binary.Remainder Number refl refl typed
    operator_typed operator.Equal typed =
        let wanted = alike_wanted t x y typed in
        let one = left wanted.0 wanted.1 in
        subst (λ (u : ValueType). HasType shape inside t (Infix (equal_of u) a b)) (sym one.0)
        (equal_typed wanted.0 t a b wanted.3 one (right wanted.0 wanted.2))
    operator_typed operator.Unequal typed =
        let wanted = alike_wanted t x y typed in
        let one = left wanted.0 wanted.1 in
        subst (λ (u : ValueType). HasType shape inside t (Infix (unequal_of u) a b)) (sym one.0)
        (unequal_typed wanted.0 t a b wanted.3 one (right wanted.0 wanted.2))
    operator_typed operator.Less typed = of_numbers_typed binary.Less Truth refl refl typed
    operator_typed operator.AtMost typed = of_numbers_typed binary.AtMost Truth refl refl typed
    operator_typed operator.Greater typed = of_numbers_typed binary.Greater Truth refl refl typed
    operator_typed operator.AtLeast typed = of_numbers_typed binary.AtLeast Truth refl refl typed

  call_typed : (c : BagCall) (t : ValueType) (source : Source) → Number ≡ t → IsWanted shape (wanted_by c) source
      → HasType shape inside t (Read (call_leaf c source))
  call_typed call.Size t source same is = (same, is.0)
  call_typed call.Sum t source same is = (same, bag_wanted shape source is)
  call_typed call.Least t source same is = (same, bag_wanted shape source is)
  call_typed call.Most t source same is = (same, bag_wanted shape source is)
  call_typed call.Front t (Own discipline.Bag index) same is = let bag = is.1 in absurd (cc)
  call_typed call.Front t (Own discipline.Queue index) same is = (same, is.0)
  call_typed call.Front t (Port port) same is = let bag = is.1 in absurd (cc)

-- the shape of a rule's program, or of a hold's
abbrev pub shape_for : Scope → Option RuleSort → Shape
shape_for scope rule = shape_of (tables_of scope) (program_for rule)

module _ (scope : Scope) (rule : Option RuleSort) (loops : List ℕ) where
  name_typed : (q : ℕ) (o : Option NameSort) (t : ValueType) → Stands scope loops q o → type_of_name o ≡ Some t
      → HasType (shape_for scope rule) (length loops) t (Read (leaf_of scope loops q))
  name_typed q None t stands typed = absurd (cc)
  name_typed q (Some ForVariable) t stands typed =
      let range = stands.range in
      let same : Number ≡ t = cc in
      rw (variable_leaf scope loops q stands) (same, (range.low, range.high, slot_there scope q (domain.Number range) stands.has))
  name_typed q (Some ForFlag) t stands typed =
      let same : Truth ≡ t = cc in
      rw (flag_leaf scope loops q stands) (same, slot_there scope q (domain.Flag stands.start) stands.has)
  name_typed q (Some (ForHeld d)) t stands typed = absurd (cc)
  name_typed q (Some ForInput) t stands typed = absurd (cc)
  name_typed q (Some ForOutput) t stands typed = absurd (cc)
  name_typed q (Some ForLoopVariable) t stands typed =
      let same : Number ≡ t = cc in
      rw (item_leaf scope loops q stands) (same, stands.within)

  source_typed : (w : Wanted) (q : ℕ) → Readable scope w rule q → IsWanted (shape_for scope rule) w (source_of scope q)
  source_typed w q (OfState d stands suited) =
      let slot = slot_there scope q (domain.Held d stands.capacity) stands.has in
      rw (own_source scope d q stands) ((stands.capacity, slot), suited)
  source_typed w q (InputPort stands suited seen) =
      rw (port_source scope q stands) ((stands.port.within, receives rule ∙ seen), suited)

  module _ (known : Known) (knows : Knows scope rule loops known) where
    readable_typed : (w : Wanted) (q : ℕ) → is_readable w known.rule (known.sort q) ≡ true
        → IsWanted (shape_for scope rule) w (source_of scope q)
    readable_typed w q is = source_typed w q (known_readable scope rule loops known knows w q is)

    pub expression_typed : (e : NamedExpression) (t : ValueType) → type_in_text known e ≡ Some t
        → HasType (shape_for scope rule) (length loops) t (resolved scope loops e)
    expression_typed (Literal n) t typed =
        let same : Number ≡ t = cc in
        (same, tt)
    expression_typed (TruthValue offset b) t typed =
        let same : Truth ≡ t = cc in
        (same, tt)
    expression_typed (Named name) t typed = name_typed name.number (known.sort name.number) t (knows.name name.number) typed
    expression_typed (Parens offset e) t typed = expression_typed e t typed
    expression_typed (Prefixed prefix.Minus offset e) t typed =
        let is = type_given (is_of Number (type_in_text known e)) Number t typed in
        let operand = expression_typed e Number (type_wanted Number (type_in_text known e) is.0) in
        (is.1, (tt, operand.0, operand.1))
    expression_typed (Prefixed prefix.Not offset e) t typed =
        let is = type_given (is_of Truth (type_in_text known e)) Truth t typed in
        let operand = expression_typed e Truth (type_wanted Truth (type_in_text known e) is.0) in
        (is.1, (tt, operand.0, operand.1))
    expression_typed (Binary o a b) t typed =
        operator_typed (shape_for scope rule) (length loops) (type_in_text known a) (type_in_text known b) t (resolved scope loops a)
        (resolved scope loops b) (expression_typed a) (expression_typed b) o typed
    expression_typed (Call c offset b) t typed =
        let w = wanted_by c in
        let is = type_given (is_readable w known.rule (known.sort b.number)) Number t typed in
        call_typed (shape_for scope rule) (length loops) c t (source_of scope b.number) is.1 (readable_typed w b.number is.0)
    expression_typed (Elapsed offset) t typed =
        let is = type_given (knows_elapsed known.rule) Number t typed in
        (is.1, reads_elapsed rule ∙ (ap knows_elapsed (sym knows.rule_is) ∙ is.0))
    expression_typed (Times offset e b) t typed =
        let number = is_of Number (type_in_text known e) in
        let readable = is_readable want.Bag known.rule (known.sort b.number) in
        let is = type_given (number && readable) Number t typed in
        let both = both_true number readable is.0 in
        let operand = expression_typed e Number (type_wanted Number (type_in_text known e) both.0) in
        let source = bag_wanted (shape_for scope rule) (source_of scope b.number) (readable_typed want.Bag b.number both.1) in
        (is.1, (source, operand.0, operand.1))

-- ---- Statements

-- an assignment is known, and takes what is of the type of what it sets
assignment_known : (scope : Scope) (s : RuleSort) (loops : List ℕ) (q : ℕ) {o : Option NameSort} (t : ValueType) → Assigned scope loops q o
    → is_output_rule (Some s) ≡ false → type_of_name o ≡ Some t
    → KnowsAction (rule_shape scope s) (assignment_at scope (index_of q (names_of scope.variables)))
    × (t ≡ action_type (assignment_at scope (index_of q (names_of scope.variables))))
assignment_known scope s loops q t (ToVariable stands) changing typed =
    let there = slot_there scope q (domain.Number stands.range) stands.has in
    let same : Number ≡ t = cc in
    rw (variable_assignment scope loops q stands) ((stands.range.low, stands.range.high, there, changes s changing), sym same)
assignment_known scope s loops q t (ToFlag stands) changing typed =
    let there = slot_there scope q (domain.Flag stands.start) stands.has in
    let same : Truth ≡ t = cc in
    rw (flag_assignment scope loops q stands) ((there, changes s changing), sym same)

-- an empty second block is none
choice_typed : (shape : Shape) (depth inside : ℕ) (condition : Expression) (block other rest : Statements)
    → AreTyped shape depth inside (If condition block other rest) → AreTyped shape depth inside (choice condition block other rest)
choice_typed shape depth inside condition block Done rest typed = (typed.0, typed.1, typed.2, typed.4)
choice_typed shape depth inside condition block (Act a value next) rest typed = typed
choice_typed shape depth inside condition block (Obey d next) rest typed = typed
choice_typed shape depth inside condition block (When c b next) rest typed = typed
choice_typed shape depth inside condition block (If c b o next) rest typed = typed
choice_typed shape depth inside condition block (For source b next) rest typed = typed

module _ (scope : Scope) (s : RuleSort) (depth : ℕ) where
  module _ (loops : List ℕ) (known : Known) (knows : Knows scope (Some s) loops known) where
    value_typed : (wanted : ValueType) (e : NamedExpression) → offset_refusals wanted known e ≡ []
        → HasType (rule_shape scope s) (length loops) wanted (resolved scope loops e)
    value_typed wanted e none = expression_typed scope (Some s) loops known knows e wanted (index_typed known wanted e none)

    changes_here : is_output_rule known.rule ≡ false → may_change (program_sort s) ≡ true
    changes_here none = changes s (ap is_output_rule (sym knows.rule_is) ∙ none)

    -- the slot of a collection that is changed
    slot_known : (d : Discipline) (q : ℕ) → StandsForHeld scope d q → IsSourceOf (rule_shape scope s) (Own d (slot_index scope q))
    slot_known d q stands = rw stands.has.found (stands.capacity, slot_there scope q (domain.Held d stands.capacity) stands.has)

    change_known : (c : Change) (e : NamedExpression) (x : Name) (rest : NamedStatements) → AcceptedChange known c e x rest
        → KnowsAction (rule_shape scope s) (act.Change c (slot_index scope x.number))
    change_known c e x rest parts =
        let d = discipline_of_change c in
        let stands = changed_stands scope loops x.number d (known.sort x.number) x.offset (knows.name x.number) parts.target in
        (slot_known d x.number stands, changes_here parts.changing)

    deed_known : (c : Command) (name : Name) → is_output_rule known.rule ≡ false → command_name_refusals known c name ≡ []
        → KnowsDeed (rule_shape scope s) (deed_of scope c name.number)
    deed_known command.Goto name changing none =
        let there = knows.phase name.number (not_false _ (not_refused _ _ _ none)) in
        rw there.found (there.within, changes_here changing)
    deed_known command.Pop name changing none =
        let d = discipline.Queue in
        let stands = changed_stands scope loops name.number d (known.sort name.number) name.offset (knows.name name.number) none in
        (slot_known d name.number stands, changes_here changing)

  statements_typed : (loops : List ℕ) (known : Known) (knows : Knows scope (Some s) loops known) (body : NamedStatements)
      → statements_refusals known body ≡ [] → length loops + loop_depth body ≤ depth
      → AreTyped (rule_shape scope s) depth (length loops) (all_resolved scope loops body)
  statements_typed loops known knows Ended none deep = tt
  statements_typed loops known knows (Assign n e rest) none deep =
      let parts = accepted_assignment known n e rest none in
      let declared = known.sort n.number in
      let target = assigned_stands scope loops n.number known.rule declared n.offset (knows.name n.number) parts.target in
      let type = assigned_type scope loops n.number target.0 in
      let changing = ap is_output_rule (sym knows.rule_is) ∙ target.1 in
      let action = assignment_known scope s loops n.number type.0 target.0 changing type.1 in
      let value = value_typed loops known knows type.0 e (ap (λ o. value_refusals o known e) (sym type.1) ∙ parts.value) in
      (action.0, value.0 ∙ action.1, value.1, statements_typed loops known knows rest parts.rest deep)
  statements_typed loops known knows (Does c offset name rest) none deep =
      let parts = accepted_command known c offset name rest none in
      (deed_known loops known knows c name parts.changing parts.target, statements_typed loops known knows rest parts.rest deep)
  statements_typed loops known knows (Send offset port e rest) none deep =
      let parts = accepted_send known offset port e rest none in
      let there = sent_port_stands scope loops port.number (known.sort port.number) port.offset (knows.name port.number) parts.target in
      let sending = ap is_output_rule (sym knows.rule_is) ∙ parts.sending in
      let value = value_typed loops known knows Number e parts.value in
      let rest_typed = statements_typed loops known knows rest parts.rest deep in
      rw there.found ((there.within, sends s sending), value.0, value.1, rest_typed)
  statements_typed loops known knows (IfOnly offset e block rest) none deep =
      let parts = accepted_if known offset e block rest none in
      let condition = value_typed loops known knows Truth e parts.condition in
      let first = statements_typed loops known knows block parts.first (omega arith) in
      (condition.0, condition.1, first, statements_typed loops known knows rest parts.rest (omega arith))
  statements_typed loops known knows (IfElse offset e block other rest) none deep =
      let parts = accepted_if_else known offset e block other rest none in
      let condition = value_typed loops known knows Truth e parts.condition in
      let first = statements_typed loops known knows block parts.first (omega arith) in
      let second = statements_typed loops known knows other parts.second (omega arith) in
      let rest_typed = statements_typed loops known knows rest parts.rest (omega arith) in
      choice_typed (rule_shape scope s) depth (length loops) (resolved scope loops e) (all_resolved scope loops block)
      (all_resolved scope loops other) (all_resolved scope loops rest) (condition.0, condition.1, first, second, rest_typed)
  statements_typed loops known knows (Each offset v b block rest) none deep =
      let parts = accepted_loop known offset v b block rest none in
      let inner = knows_inside scope (Some s) loops known v knows in
      let source = readable_typed scope (Some s) loops known knows want.Values b.number parts.readable in
      let inside = statements_typed (v.number ∷ loops) (known_in_loop v known) inner block parts.inside (omega arith) in
      (omega arith, source.0, inside, statements_typed loops known knows rest parts.rest (omega arith))
  statements_typed loops known knows (Changes c offset e x rest) none deep =
      let parts = accepted_change known c offset e x rest none in
      let value = value_typed loops known knows Number e parts.value in
      (change_known loops known knows c e x rest parts, value.0, value.1, statements_typed loops known knows rest parts.rest deep)

-- ---- Rules and holds

module _ (m : AtomicTree) (none : atomic_refusals m ≡ []) where
  abbrev IsRuleTyped : RuleTree → Type 0
  IsRuleTyped r = AreTyped (rule_shape (scope_of m) r.sort) (loop_depth r.body) 0 (rule_tree m r.body)

  abbrev IsHoldTyped : NamedExpression → Type 0
  IsHoldTyped e = HasType (hold_shape (scope_of m)) 0 Number (hold_tree m e)

  pub rules_typed : All IsRuleTyped m.rules
  rules_typed = each_rule m none IsRuleTyped (λ r accepted.
      let known = known_in_rule (Some r.sort) (known_in m) in
      statements_typed (scope_of m) r.sort (loop_depth r.body) [] known (knows_outside m none (Some r.sort)) r.body accepted (omega arith))

  pub holds_typed : All (λ (h : HoldTree). IfSome h.ticks IsHoldTyped) m.holds
  holds_typed = each_hold m none IsHoldTyped (λ e accepted.
      let known = known_in m in
      expression_typed (scope_of m) None [] known (knows_outside m none None) e Number (index_typed known Number e accepted))
