-- The value of what is accepted is the same by indices as by names, in a state that fits.
use Rattle.std.proofs.Common.{◌≡◌, ℕ, ℤ, pos, true, ◌&&◌, List, [], refl, ap, ◌∙◌, Option, Some, None, Result, Ok}
use Rattle.std.proofs.lemmas.Result.{IfOk-at_ok}
use Rattle.dv_syntax.specs.Operators.{class_of}
use Rattle.dv_syntax.specs.Trees.{AtomicTree, Expression as NamedExpression, Literal, TruthValue, Named, Parens, Prefixed, Binary}
use Rattle.dv_syntax.specs.Trees.{Call, Elapsed, Times}
use Rattle.dv_syntax.specs.declared.tree.Name.{Name}
use Rattle.dv_syntax.specs.declared.tree.Prefix.TheVariants as prefix
use Rattle.dv_syntax.specs.declared.tree.RuleSort.{RuleSort}
use Rattle.dv_bag.specs.Arrivals.{Arrivals}
use Rattle.dv_bag.specs.Bag.{count_of}
use Rattle.dv_bag.specs.Collections.{discipline_of}
use Rattle.dv_bag.specs.Outcome.{◌>>=◌}
use Rattle.dv_bag.specs.declared.fault.Fault.{Fault}
use Rattle.dv_bag.specs.declared.state.State.{State}
use Rattle.dv_bag.specs.declared.value.Value.{Value}
use Rattle.dv_bag.specs.declared.value.Value.TheVariants as value
use Rattle.dv_bag.specs.declared.value.ValueType.{ValueType}
use Rattle.dv_bag.specs.declared.value.ValueType.TheVariants.{Number, Truth}
use Rattle.dv_eval.specs.Meaning.{Moment, bag_or_none, collection_of_name, meaning, moment_in, number_of, prefix_result}
use Rattle.dv_eval.specs.Meaning.{value_of_name}
use Rattle.dv_eval.specs.Scope.{Scope, scope_of}
use Rattle.dv_check.specs.declared.declarations.NameSort.{NameSort}
use Rattle.dv_check.specs.declared.declarations.NameSort.TheVariants.{Variable as ForVariable, Flag as ForFlag, Held as ForHeld}
use Rattle.dv_check.specs.declared.declarations.NameSort.TheVariants.{Input as ForInput, Output as ForOutput}
use Rattle.dv_check.specs.declared.declarations.NameSort.TheVariants.{LoopVariable as ForLoopVariable}
use Rattle.dv_check.specs.declared.wanted.Wanted.{Wanted}
use Rattle.dv_check.specs.declared.wanted.Wanted.TheVariants as want
use Rattle.dv_check.specs.Rules.{atomic_refusals, known_in, known_in_rule}
use Rattle.dv_check.specs.Types.{Known, is_of, is_readable, suits, type_of_name, wanted_by, type_of as type_in_text}
use Rattle.law_accepted.specs.Fitting.{context_within, fits_in, known_within}
use Rattle.law_accepted.proofs.Fitting.{both_true}
use Rattle.law_accepted.proofs.Typed.{OfType, value_typed}
use Rattle.dv_code.specs.Operations.{collection_of, leaf_value, of_bag, unary_value}
use Rattle.dv_code.specs.declared.instruction.Unary.TheVariants as unary
use Rattle.dv_gen.specs.Resolution.{leaf_of, resolved, source_of}
use Rattle.dv_gen.specs.Resolved.{or_zero, value_of}
use Rattle.dv_gen.proofs.KnownNames.{InputPort, OfState, Readable, Stands, flag_leaf, item_leaf, own_source, port_source}
use Rattle.dv_gen.proofs.KnownNames.{known_readable, variable_leaf}
use Rattle.dv_gen.proofs.OperandTypes.{operand_types, type_given, type_wanted}
use Rattle.dv_gen.proofs.TypedTrees.{expression_typed}
use Rattle.dv_gen.proofs.FittingStates.{flag_there, held_there, number_there}
use Rattle.dv_gen.proofs.LoopVariables.{is_item, items_within, knows_within, loops_of, no_loop_value}
use Rattle.dv_gen.proofs.EqualOperators.{GivesType, bag_read, bind_agrees, call_agrees, on_number, on_truth, operator_agrees}

-- ---- Names

module _ (scope : Scope) (arrivals : Arrivals) (bound : List (Name × ℤ)) (s : State) (fit : fits_in scope s ≡ true) where
  abbrev moment : Moment
  moment = moment_in (context_within arrivals bound) s

  name_agrees : (q : ℕ) (o : Option NameSort) (t : ValueType) → Stands scope (loops_of bound) q o → type_of_name o ≡ Some t
      → or_zero (leaf_value arrivals (items_within bound) s (leaf_of scope (loops_of bound) q)) ≡ Ok (value_of_name scope moment q)
  name_agrees q None t stands typed = absurd (cc)
  name_agrees q (Some ForVariable) t stands typed =
      let leaf = variable_leaf scope (loops_of bound) q stands in
      let outside = no_loop_value bound q stands.outside in
      let held = number_there scope s fit q stands.range stands.has in
      rw (leaf, outside, stands.has.found, held.1) refl
  name_agrees q (Some ForFlag) t stands typed =
      let leaf = flag_leaf scope (loops_of bound) q stands in
      let outside = no_loop_value bound q stands.outside in
      let held = flag_there scope s fit q stands.start stands.has in
      rw (leaf, outside, stands.has.found, held.1) refl
  name_agrees q (Some (ForHeld d)) t stands typed = absurd (cc)
  name_agrees q (Some ForInput) t stands typed = absurd (cc)
  name_agrees q (Some ForOutput) t stands typed = absurd (cc)
  name_agrees q (Some ForLoopVariable) t stands typed =
      let leaf = item_leaf scope (loops_of bound) q stands in
      let item = is_item bound q stands.loop stands.found in
      rw (leaf, item.by_name, item.by_index) refl

  -- a collection is the same by its index, and suits where this is wanted
  abbrev pub CollectionAgrees : Wanted → ℕ → Type 0
  CollectionAgrees w q =
      (collection_of arrivals s (source_of scope q) ≡ Some (collection_of_name scope moment q))
      × (suits w (discipline_of (collection_of_name scope moment q)) ≡ true)

  source_agrees : (w : Wanted) (rule : Option RuleSort) (q : ℕ) → Readable scope w rule q → CollectionAgrees w q
  source_agrees w rule q (OfState d stands suited) =
      let source = own_source scope d q stands in
      let held = held_there scope s fit q d stands in
      rw (source, stands.has.found, held.1) (refl, ap (suits w) held.2 ∙ suited)
  source_agrees w rule q (InputPort stands suited seen) =
      let source = port_source scope q stands in
      rw (source, stands.indexless, stands.port.found) (refl, suited)

-- ---- Expressions

module _ (m : AtomicTree) (none : atomic_refusals m ≡ []) (rule : Option RuleSort) (arrivals : Arrivals) (bound : List (Name × ℤ))
    (s : State) (fit : fits_in (scope_of m) s ≡ true) where
  abbrev known : Known
  known = known_within bound (known_in_rule rule (known_in m))

  abbrev by_names : NamedExpression → Result Value Fault
  by_names e = meaning (scope_of m) (moment_in (context_within arrivals bound) s) e

  abbrev by_indices : NamedExpression → Result Value Fault
  by_indices e = value_of arrivals (items_within bound) s (resolved (scope_of m) (loops_of bound) e)

  pub gives_type : (e : NamedExpression) (t : ValueType) → type_in_text known e ≡ Some t → GivesType t (by_names e)
  gives_type e t typed v is = IfOk-at_ok (OfType t) is (value_typed m rule arrivals bound s fit e t typed)

  pub collection_agrees : (w : Wanted) (q : ℕ) → is_readable w known.rule (known.sort q) ≡ true
      → CollectionAgrees (scope_of m) arrivals bound s fit w q
  collection_agrees w q is =
      source_agrees (scope_of m) arrivals bound s fit w rule q
      (known_readable (scope_of m) rule (loops_of bound) known (knows_within m none rule bound) w q is)

  pub value_agrees : (e : NamedExpression) (t : ValueType) → type_in_text known e ≡ Some t → by_indices e ≡ by_names e
  value_agrees (Literal n) t typed = refl
  value_agrees (TruthValue offset b) t typed = refl
  value_agrees (Named name) t typed =
      let knows = knows_within m none rule bound in
      name_agrees (scope_of m) arrivals bound s fit name.number (known.sort name.number) t (knows.name name.number) typed
  value_agrees (Parens offset e) t typed = value_agrees e t typed
  value_agrees (Prefixed prefix.Minus offset e) t typed =
      let is = type_given (is_of Number (type_in_text known e)) Number t typed in
      let operand = type_wanted Number (type_in_text known e) is.0 in
      ap (λ r. r >>= λ v. or_zero (unary_value arrivals s unary.Negate v)) (value_agrees e Number operand)
      ∙ bind_agrees (by_names e) _ _ (λ v is_v.
      on_number (λ x. or_zero (unary_value arrivals s unary.Negate x)) (λ x. prefix_result prefix.Minus x) v
      (gives_type e Number operand v is_v) (λ n. refl))
  value_agrees (Prefixed prefix.Not offset e) t typed =
      let is = type_given (is_of Truth (type_in_text known e)) Truth t typed in
      let operand = type_wanted Truth (type_in_text known e) is.0 in
      ap (λ r. r >>= λ v. or_zero (unary_value arrivals s unary.Not v)) (value_agrees e Truth operand)
      ∙ bind_agrees (by_names e) _ _ (λ v is_v.
      on_truth (λ x. or_zero (unary_value arrivals s unary.Not x)) (λ x. prefix_result prefix.Not x) v
      (gives_type e Truth operand v is_v) (λ b. refl))
  value_agrees (Binary o a b) t typed =
      let knows = knows_within m none rule bound in
      let left = type_in_text known a in
      let right = type_in_text known b in
      let operands = operand_types (class_of o) left right t typed in
      operator_agrees arrivals (items_within bound) s (resolved (scope_of m) (loops_of bound) a) (resolved (scope_of m) (loops_of bound) b)
      (by_names a) (by_names b) (value_agrees a operands.left operands.left_is) (value_agrees b operands.right operands.right_is)
      left right t (gives_type a) (gives_type b) (λ u is. (expression_typed (scope_of m) rule (loops_of bound) known knows a u is).0)
      o typed
  value_agrees (Call c offset b) t typed =
      let is = type_given (is_readable (wanted_by c) known.rule (known.sort b.number)) Number t typed in
      let same = collection_agrees (wanted_by c) b.number is.0 in
      call_agrees c arrivals (items_within bound) s (source_of (scope_of m) b.number) _ same.0 same.1
  value_agrees (Elapsed offset) t typed = refl
  value_agrees (Times offset e b) t typed =
      let number = is_of Number (type_in_text known e) in
      let readable = is_readable want.Bag known.rule (known.sort b.number) in
      let is = type_given (number && readable) Number t typed in
      let both = both_true number readable is.0 in
      let operand = type_wanted Number (type_in_text known e) both.0 in
      let source = source_of (scope_of m) b.number in
      let held = collection_of_name (scope_of m) (moment_in (context_within arrivals bound) s) b.number in
      let bag = bag_or_none held in
      let same = collection_agrees want.Bag b.number both.1 in
      let counted = bag_read (collection_of arrivals s source) held same.0 same.1 in
      ap (λ r. r >>= λ v. or_zero (unary_value arrivals s (unary.Times source) v)) (value_agrees e Number operand)
      ∙ bind_agrees (by_names e) _ _ (λ v is_v.
      on_number (λ x. or_zero (unary_value arrivals s (unary.Times source) x)) (λ x. Ok (value.Number (pos (count_of (number_of x) bag)))) v
      (gives_type e Number operand v is_v) (λ n. ap (λ o. or_zero (of_bag o (λ c. Ok (value.Number (pos (count_of n c)))))) counted))
