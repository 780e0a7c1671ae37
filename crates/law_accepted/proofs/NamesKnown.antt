-- What is accepted names only what its model declares.
use Rattle.std.proofs.Common.{◌≡◌, ℕ, ◌==◌, Bool, true, false, not, ◌&&◌, ◌||◌, if◌then◌else◌, List, [], ◌∷◌, ◌++◌, refl}
use Rattle.std.proofs.Common.{Option, Some, None}
use Rattle.std.specs.List.{AllByRecursion, All, flat_map}
use Rattle.std.proofs.lemmas.List.Elements.{All-from_recursion}
use Rattle.dv_syntax.specs.Operators.{class_of}
use Rattle.dv_syntax.specs.declared.tree.Name.{Name}
use Rattle.dv_syntax.specs.declared.tree.Command.{Command}
use Rattle.dv_syntax.specs.declared.tree.Command.TheVariants as command
use Rattle.dv_syntax.specs.declared.tree.RuleSort.{RuleSort}
use Rattle.dv_syntax.specs.Trees.{AtomicTree, HoldTree, RuleTree, Expression, Literal, TruthValue, Named, Parens, Prefixed}
use Rattle.dv_syntax.specs.Trees.{Binary, Call, Elapsed, Times, Statements, Done, Assign, Does, Send, If, IfElse, For, Changes}
use Rattle.dv_bag.specs.Collections.{discipline_of_change}
use Rattle.dv_bag.specs.declared.discipline.Change.{Change}
use Rattle.dv_bag.specs.declared.discipline.Discipline.TheVariants as discipline
use Rattle.dv_eval.specs.Scope.{is_declared, phases_in, scope_of}
use Rattle.dv_check.specs.declared.declarations.NameSort.{NameSort}
use Rattle.dv_check.specs.declared.declarations.NameSort.TheVariants.{LoopVariable as ForLoopVariable}
use Rattle.dv_check.specs.declared.wanted.Wanted.{Wanted}
use Rattle.dv_check.specs.declared.wanted.Wanted.TheVariants as wanted
use Rattle.dv_bag.specs.declared.value.ValueType.{ValueType}
use Rattle.dv_bag.specs.declared.value.ValueType.TheVariants.{Number, Truth}
use Rattle.dv_check.specs.Types.{Known, expression_refusals, first_offset, held_name_refusals, operand_refusals, offset_refusals}
use Rattle.dv_check.specs.Types.{type_of, type_of_name, type_of_prefix, type_refusals, value_refusals, wanted_by}
use Rattle.dv_check.specs.Types.{is_readable as is_readable_sort}
use Rattle.dv_check.specs.Rules.{atomic_refusals, assignment_refusals, change_refusals, changed_refusals, command_name_refusals}
use Rattle.dv_check.specs.Rules.{hold_refusals, known_in, known_in_loop, known_in_rule, loop_variable_refusals, phase_refusals}
use Rattle.dv_check.specs.Rules.{rule_refusals, sent_port_refusals, sort_in, statements_refusals, ticks_refusals}
use Rattle.dv_check.specs.Couplings.{is_output}
use Rattle.law_accepted.specs.Fitting.{are_names_known, are_terms_known, are_ticks_known, is_assignable, is_command_known, is_held}
use Rattle.law_accepted.specs.Fitting.{is_readable, is_value, is_variable, wanted_of}
use Rattle.dv_check.proofs.CheckedFiles.{both_nil, not_refused, not_false}
use Rattle.dv_check.proofs.Declared.{output_declared}
use Rattle.law_accepted.proofs.Fitting.{among_declared, and_true, parts_of_none}
use Rattle.law_accepted.proofs.Known.{assigned_known, changed_known, held_name_known, held_there, is_held_sort, is_value_sort}
use Rattle.law_accepted.proofs.Known.{is_variable_sort, of_no_loop, readable_as, sent_known, value_name_known, value_outside, variable_there}

-- ---- Names that are known

-- what is known in loops of these variables is there
record Knows (m : AtomicTree) (loops : List ℕ) (known : Known) : Type 0 where
  value : (q : ℕ) → is_value_sort (known.sort q) ≡ true → is_value (scope_of m) loops q ≡ true
  variable : (q : ℕ) → is_variable_sort (known.sort q) ≡ true → is_assignable (scope_of m) loops q ≡ true
  held : (w : Wanted) (q : ℕ) → is_held_sort w (known.sort q) ≡ true → is_held w (scope_of m) q ≡ true
  readable : (w : Wanted) (q : ℕ) → is_readable_sort w known.rule (known.sort q) ≡ true
      → is_readable w (scope_of m) known.rule q ≡ true
  output : (q : ℕ) → is_output (known.sort q) ≡ true → is_declared q (scope_of m).outputs ≡ true
  phase : (q : ℕ) → known.has_phase q ≡ true → is_declared q (scope_of m).phases ≡ true

-- outside of all loops
knows_outside : (m : AtomicTree) (rule : Option RuleSort) → Knows m [] (known_in_rule rule (known_in m))
knows_outside m rule = record {
  value = λ q e. variable_there m q (value_outside (sort_in m.declarations q) (of_no_loop q m.declarations) e);
  variable = λ q e. and_true (is_variable (scope_of m) q) true (variable_there m q e) refl;
  held = λ w q e. held_there m q w e;
  readable = λ w q e. readable_as m q w rule (sort_in m.declarations q) refl e;
  output = λ q e. output_declared q m.declarations [] e;
  phase = λ q e. among_declared q (phases_in m.phases) e;
}

-- in the block of one loop more
value_if : (b : Bool) (o : Option NameSort) (around declared : Bool) → is_value_sort (if b then Some ForLoopVariable else o) ≡ true
    → (is_value_sort o ≡ true → (around || declared) ≡ true) → ((b || around) || declared) ≡ true
value_if true o around declared e later = refl
value_if false o around declared e later = later e

variable_if : (b : Bool) (o : Option NameSort) (around declared : Bool) → is_variable_sort (if b then Some ForLoopVariable else o) ≡ true
    → (is_variable_sort o ≡ true → (declared && not around) ≡ true) → (declared && not (b || around)) ≡ true
variable_if true o around declared e later = absurd (cc)
variable_if false o around declared e later = later e

-- what no loop variable is
unless_loop : (is : Option NameSort → Bool) (b : Bool) (o : Option NameSort) (there : Bool) → is (Some ForLoopVariable) ≡ false
    → is (if b then Some ForLoopVariable else o) ≡ true → (is o ≡ true → there ≡ true) → there ≡ true
unless_loop is true o there other e later = absurd (cc)
unless_loop is false o there other e later = later e

knows_inside : (m : AtomicTree) (loops : List ℕ) (known : Known) (v : Name) → Knows m loops known
    → Knows m (v.number ∷ loops) (known_in_loop v known)
knows_inside m loops known v k = record {
  value = λ q e. value_if (v.number == q) (known.sort q) (is_declared q loops) (is_variable (scope_of m) q) e (k.value q);
  variable = λ q e. variable_if (v.number == q) (known.sort q) (is_declared q loops) (is_variable (scope_of m) q) e (k.variable q);
  held = λ w q e. unless_loop (is_held_sort w) (v.number == q) (known.sort q) (is_held w (scope_of m) q) refl e (k.held w q);
  readable = λ w q e.
      unless_loop (is_readable_sort w known.rule) (v.number == q) (known.sort q) (is_readable w (scope_of m) known.rule q) refl e
      (k.readable w q);
  output = λ q e. unless_loop is_output (v.number == q) (known.sort q) (is_declared q (scope_of m).outputs) refl e (k.output q);
  phase = k.phase;
}

-- ---- Expressions and statements

module _ (m : AtomicTree) (loops : List ℕ) (k : Known) (knows : Knows m loops k) where
  terms_known : (e : Expression) → expression_refusals k e ≡ [] → are_terms_known (scope_of m) k.rule loops e ≡ true
  terms_known (Literal n) none = refl
  terms_known (TruthValue offset value) none = refl
  terms_known (Named name) none = knows.value name.number (value_name_known (k.sort name.number) name.offset none)
  terms_known (Parens offset e) none = terms_known e none
  terms_known (Prefixed o offset e) none =
      terms_known e (both_nil (expression_refusals k e) (type_refusals (type_of_prefix o) (type_of k e) (first_offset e)) none).0
  terms_known (Binary o a b) none =
      let operands = operand_refusals (class_of o) (type_of k a) (first_offset a) (type_of k b) (first_offset b) in
      let left = both_nil (expression_refusals k a) (expression_refusals k b ++ operands) none in
      let right = both_nil (expression_refusals k b) operands left.1 in
      and_true _ (are_terms_known (scope_of m) k.rule loops b) (terms_known a left.0) (terms_known b right.0)
  terms_known (Call c offset b) none =
      knows.readable (wanted_by c) b.number (held_name_known (wanted_by c) k.rule (k.sort b.number) b.offset none)
  terms_known (Elapsed offset) none = not_false _ (not_refused _ _ _ none)
  terms_known (Times offset e b) none =
      let typed = type_refusals Number (type_of k e) (first_offset e) in
      let named = held_name_refusals wanted.Bag k.rule (k.sort b.number) b.offset in
      let left = both_nil (expression_refusals k e) (typed ++ named) none in
      let right = both_nil typed named left.1 in
      let readable = knows.readable wanted.Bag b.number (held_name_known wanted.Bag k.rule (k.sort b.number) b.offset right.1) in
      and_true _ (is_readable wanted.Bag (scope_of m) k.rule b.number) (terms_known e left.0) readable

  index_known : (t : ValueType) (e : Expression) → offset_refusals t k e ≡ [] → are_terms_known (scope_of m) k.rule loops e ≡ true
  index_known t e none = terms_known e (both_nil (expression_refusals k e) (type_refusals t (type_of k e) (first_offset e)) none).0

  value_known : (t : Option ValueType) (e : Expression) → value_refusals t k e ≡ [] → are_terms_known (scope_of m) k.rule loops e ≡ true
  value_known None e none = terms_known e none
  value_known (Some t) e none = index_known t e none

  command_known : (c : Command) (name : Name) → command_name_refusals k c name ≡ [] → is_command_known (scope_of m) c name.number ≡ true
  command_known command.Goto name none = knows.phase name.number (not_false _ (not_refused _ _ _ none))
  command_known command.Pop name none =
      knows.held wanted.Queue name.number (changed_known discipline.Queue (k.sort name.number) name.offset none)

  -- a collection is changed with a value, before what follows
  change_known : (c : Change) (offset : ℕ) (e : Expression) (x : Name) (rest : Bool) → change_refusals k c offset e x ≡ [] → rest ≡ true
      → (are_terms_known (scope_of m) k.rule loops e && (is_held (wanted_of (discipline_of_change c)) (scope_of m) x.number && rest)) ≡ true
  change_known c offset e x rest none follows =
      let d = discipline_of_change c in
      let value = offset_refusals Number k e in
      let target = changed_refusals d (k.sort x.number) x.offset in
      let both = both_nil value target (both_nil _ (value ++ target) none).1 in
      let there = knows.held (wanted_of d) x.number (changed_known d (k.sort x.number) x.offset both.1) in
      and_true _ _ (index_known Number e both.0) (and_true _ _ there follows)

module _ (m : AtomicTree) where
  statements_known : (loops : List ℕ) (k : Known) (knows : Knows m loops k) (body : Statements) → statements_refusals k body ≡ []
      → are_names_known (scope_of m) k.rule loops body ≡ true
  statements_known loops k knows Done none = refl
  statements_known loops k knows (Assign variable e rest) none =
      let of_type = type_of_name (k.sort variable.number) in
      let assigned = assignment_refusals k.rule (k.sort variable.number) variable.offset in
      let left = both_nil assigned (value_refusals of_type k e ++ statements_refusals k rest) none in
      let right = both_nil (value_refusals of_type k e) (statements_refusals k rest) left.1 in
      and_true _ _ (knows.variable variable.number (assigned_known k.rule (k.sort variable.number) variable.offset left.0))
      (and_true _ _ (value_known m loops k knows of_type e right.0) (statements_known loops k knows rest right.1))
  statements_known loops k knows (Does c offset name rest) none =
      let named = command_name_refusals k c name in
      let both = both_nil named (statements_refusals k rest) (both_nil _ (named ++ statements_refusals k rest) none).1 in
      and_true _ _ (command_known m loops k knows c name both.0) (statements_known loops k knows rest both.1)
  statements_known loops k knows (Send offset port e rest) none =
      let port_refusals = sent_port_refusals (k.sort port.number) port.offset in
      let value_refusals = offset_refusals Number k e in
      let rest_refusals = statements_refusals k rest in
      let behind = (both_nil _ (port_refusals ++ (value_refusals ++ rest_refusals)) none).1 in
      let left = both_nil port_refusals (value_refusals ++ rest_refusals) behind in
      let right = both_nil value_refusals rest_refusals left.1 in
      and_true _ _ (knows.output port.number (sent_known (k.sort port.number) port.offset left.0))
      (and_true _ _ (index_known m loops k knows Number e right.0) (statements_known loops k knows rest right.1))
  statements_known loops k knows (If offset e block rest) none =
      let left = both_nil (offset_refusals Truth k e) (statements_refusals k block ++ statements_refusals k rest) none in
      let right = both_nil (statements_refusals k block) (statements_refusals k rest) left.1 in
      and_true _ _ (index_known m loops k knows Truth e left.0)
      (and_true _ _ (statements_known loops k knows block right.0) (statements_known loops k knows rest right.1))
  statements_known loops k knows (IfElse offset e block other rest) none =
      let rest_refusals = statements_refusals k rest in
      let other_refusals = statements_refusals k other in
      let left = both_nil (offset_refusals Truth k e) (statements_refusals k block ++ (other_refusals ++ rest_refusals)) none in
      let middle = both_nil (statements_refusals k block) (other_refusals ++ rest_refusals) left.1 in
      let right = both_nil other_refusals rest_refusals middle.1 in
      and_true _ _ (index_known m loops k knows Truth e left.0)
      (and_true _ _ (statements_known loops k knows block middle.0)
      (and_true _ _ (statements_known loops k knows other right.0) (statements_known loops k knows rest right.1)))
  statements_known loops k knows (For offset v b block rest) none =
      let named = held_name_refusals wanted.Values k.rule (k.sort b.number) b.offset in
      let inner = known_in_loop v k in
      let block_refusals = statements_refusals inner block in
      let rest_refusals = statements_refusals k rest in
      let behind = (both_nil (loop_variable_refusals (k.offset v.number) v.offset) (named ++ (block_refusals ++ rest_refusals)) none).1 in
      let left = both_nil named (block_refusals ++ rest_refusals) behind in
      let right = both_nil block_refusals rest_refusals left.1 in
      and_true _ _ (knows.readable wanted.Values b.number (held_name_known wanted.Values k.rule (k.sort b.number) b.offset left.0))
      (and_true _ _ (statements_known (v.number ∷ loops) inner (knows_inside m loops k v knows) block right.0)
      (statements_known loops k knows rest right.1))
  statements_known loops k knows (Changes c offset e x rest) none =
      let both = both_nil (change_refusals k c offset e x) (statements_refusals k rest) none in
      change_known m loops k knows c offset e x _ both.0 (statements_known loops k knows rest both.1)

  rules_known_from : (rules : List RuleTree) → flat_map (rule_refusals (known_in m)) rules ≡ []
      → AllByRecursion (λ (r : RuleTree). are_names_known (scope_of m) (Some r.sort) [] r.body ≡ true) rules
  rules_known_from [] none = tt
  rules_known_from (r ∷ rules) none =
      let k = known_in m in
      let both = both_nil (rule_refusals k r) (flat_map (rule_refusals k) rules) none in
      let inside = known_in_rule (Some r.sort) k in
      let here = both_nil (phase_refusals k r.phase) (statements_refusals inside r.body) both.0 in
      (statements_known [] inside (knows_outside m (Some r.sort)) r.body here.1, rules_known_from rules both.1)

  ticks_of_known : (ticks : Option Expression) → ticks_refusals (known_in m) ticks ≡ [] → are_ticks_known (scope_of m) ticks ≡ true
  ticks_of_known None none = refl
  ticks_of_known (Some e) none = index_known m [] (known_in m) (knows_outside m None) Number e none

  ticks_known : (h : HoldTree) → hold_refusals (known_in m) h ≡ [] → are_ticks_known (scope_of m) h.ticks ≡ true
  ticks_known h none = ticks_of_known h.ticks (both_nil (phase_refusals (known_in m) h.phase) (ticks_refusals (known_in m) h.ticks) none).1

  holds_known_from : (holds : List HoldTree) → flat_map (hold_refusals (known_in m)) holds ≡ []
      → AllByRecursion (λ (h : HoldTree). are_ticks_known (scope_of m) h.ticks ≡ true) holds
  holds_known_from [] none = tt
  holds_known_from (h ∷ holds) none =
      let both = both_nil (hold_refusals (known_in m) h) (flat_map (hold_refusals (known_in m)) holds) none in
      (ticks_known h both.0, holds_known_from holds both.1)

  pub rules_known : atomic_refusals m ≡ [] → All (λ (r : RuleTree). are_names_known (scope_of m) (Some r.sort) [] r.body ≡ true) m.rules
  rules_known e = All-from_recursion _ m.rules (rules_known_from m.rules (parts_of_none m e).rules)

  pub holds_known : atomic_refusals m ≡ [] → All (λ (h : HoldTree). are_ticks_known (scope_of m) h.ticks ≡ true) m.holds
  holds_known e = All-from_recursion _ m.holds (holds_known_from m.holds (parts_of_none m e).holds)
