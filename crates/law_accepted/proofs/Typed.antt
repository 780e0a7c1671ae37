-- Accepted expressions have types, and their values are of these.
use Rattle.std.proofs.Common.{◌≡◌, ℕ, ℤ, Bool, true, false, not, ◌==◌, if◌then◌else◌, List, [], ◌∷◌, ◌++◌, refl, sym, ap, ◌∙◌}
use Rattle.std.proofs.Common.{Option, Some, None, Result, Ok, Err, IfOk, pos, neg_ℤ, ◌+ℤ◌, ◌-ℤ◌, ◌*ℤ◌, int_div, int_rem}
use Rattle.std.specs.Ordering.{int_eq}
use Rattle.dv_lex.specs.declared.error.RefusalNumber.TheVariants.{E8}
use Rattle.dv_syntax.specs.declared.tree.Prefix.{Prefix}
use Rattle.dv_syntax.specs.declared.tree.Prefix.TheVariants.{Minus, Not}
use Rattle.dv_syntax.specs.declared.tree.Operator.{Operator}
use Rattle.dv_syntax.specs.declared.tree.Operator.TheVariants.{Or, And, Add, Subtract, Multiply, Divide, Remainder, Equal}
use Rattle.dv_syntax.specs.declared.tree.Operator.TheVariants.{Unequal, Less, AtMost, Greater, AtLeast}
use Rattle.dv_syntax.specs.declared.tree.OperatorClass.{OperatorClass}
use Rattle.dv_syntax.specs.declared.tree.OperatorClass.TheVariants.{Logic, Equality, Order, Arithmetic}
use Rattle.dv_syntax.specs.Operators.{class_of}
use Rattle.dv_syntax.specs.declared.tree.Name.{Name}
use Rattle.dv_syntax.specs.declared.tree.BagCall.{BagCall}
use Rattle.dv_syntax.specs.declared.tree.BagCall.TheVariants.{Size, Sum, Least, Most, Front}
use Rattle.dv_syntax.specs.declared.tree.RuleSort.{RuleSort}
use Rattle.dv_syntax.specs.Trees.{AtomicTree, Expression, Literal, TruthValue, Named, Parens, Prefixed, Binary, Call, Elapsed, Times}
use Rattle.dv_bag.specs.Bag.{least, most, sum_or_overflow}
use Rattle.dv_bag.specs.Outcome.{◌>>=◌}
use Rattle.dv_bag.specs.declared.collection.Collection.{Collection}
use Rattle.dv_bag.specs.declared.fault.Fault.{Fault}
use Rattle.dv_bag.specs.declared.fault.Fault.TheVariants as fault
use Rattle.dv_bag.specs.declared.value.Value.{Value}
use Rattle.dv_bag.specs.declared.value.Value.TheVariants as value
use Rattle.dv_bag.specs.declared.state.Datum.{Datum}
use Rattle.dv_bag.specs.declared.state.Datum.TheVariants as datum
use Rattle.dv_bag.specs.declared.state.State.{State}
use Rattle.dv_eval.specs.declared.scope.Domain.{Domain}
use Rattle.dv_eval.specs.declared.scope.Domain.TheVariants as domain
use Rattle.dv_eval.specs.Scope.{Scope, scope_of}
use Rattle.dv_bag.specs.Arithmetic.{is_kept, number_or_empty, number_or_overflow, quotient, remainder}
use Rattle.dv_bag.specs.Arrivals.{Arrivals}
use Rattle.dv_eval.specs.Meaning.{bag_or_none, call_result, collection_of_name, datum_at, datum_of_name, first, is_decided, loop_value}
use Rattle.dv_eval.specs.Meaning.{meaning, moment_in, number_of, operator_result, prefix_result, queue_or_none, truth_of}
use Rattle.dv_eval.specs.Meaning.{value_in_loop, value_of_datum, value_of_name}
use Rattle.dv_check.specs.declared.declarations.NameSort.{NameSort}
use Rattle.dv_check.specs.declared.declarations.NameSort.TheVariants.{Variable as ForVariable, Flag as ForFlag, Held as ForHeld}
use Rattle.dv_check.specs.declared.declarations.NameSort.TheVariants.{Input as ForInput, Output as ForOutput}
use Rattle.dv_check.specs.declared.declarations.NameSort.TheVariants.{LoopVariable as ForLoopVariable}
use Rattle.dv_bag.specs.declared.value.ValueType.{ValueType}
use Rattle.dv_bag.specs.declared.value.ValueType.TheVariants.{Number, Truth}
use Rattle.dv_check.specs.Names.{refusal_if}
use Rattle.dv_check.specs.declared.wanted.Wanted.TheVariants as wanted
use Rattle.dv_check.specs.Types.{Known, alike, both_of, differ, expression_refusals, first_offset, held_name_refusals, is_of}
use Rattle.dv_check.specs.Types.{is_readable, knows_elapsed, operand_refusals, operands_wanted, offset_refusals, same_type, type_if}
use Rattle.dv_check.specs.Types.{type_by, type_of, type_of_name, type_of_prefix, type_refusals, value_name_refusals, wanted_by}
use Rattle.dv_check.specs.Rules.{known_in, known_in_rule, sort_in}
use Rattle.law_accepted.specs.Fitting.{context_within, datum_fits, fits_in, HoldsDatum, is_of_type, known_within, values_within}
use Rattle.dv_check.proofs.CheckedFiles.{both_nil, not_false, not_refused}
use Rattle.law_accepted.proofs.Fitting.{and_true}
use Rattle.law_accepted.proofs.Outcomes.{if_ok_after, if_ok_branch}
use Rattle.law_accepted.proofs.Known.{datum_held, held_name_known, is_of_loop, is_stored, of_no_loop, sort_named, sort_of_domain}

-- ---- An expression without refusals has a type

abbrev Typed : Option ValueType → Type 0
Typed o = (t : ValueType) × (o ≡ Some t)

some_if : (b : Bool) (t : ValueType) → b ≡ true → Typed (type_if b t)
some_if true t e = (t, refl)
some_if false t e = absurd (cc)

both_wanted : (wanted x y : ValueType) (p q : ℕ) → operands_wanted wanted (Some x) p (Some y) q ≡ []
    → both_of wanted (Some x) (Some y) ≡ true
both_wanted Number Number Number p q e = refl
both_wanted Number Number Truth p q e = absurd (cc)
both_wanted Number Truth Number p q e = absurd (cc)
both_wanted Number Truth Truth p q e = absurd (cc)
both_wanted Truth Number Number p q e = absurd (cc)
both_wanted Truth Number Truth p q e = absurd (cc)
both_wanted Truth Truth Number p q e = absurd (cc)
both_wanted Truth Truth Truth p q e = refl

both_alike : (x y : ValueType) (q : ℕ) → refusal_if (differ (Some x) (Some y)) E8 q ≡ [] → alike (Some x) (Some y) ≡ true
both_alike Number Number q e = refl
both_alike Number Truth q e = absurd (cc)
both_alike Truth Number q e = absurd (cc)
both_alike Truth Truth q e = refl

class_typed : (c : OperatorClass) (x y : ValueType) (p q : ℕ) → operand_refusals c (Some x) p (Some y) q ≡ []
    → Typed (type_by c (Some x) (Some y))
class_typed Logic x y p q e = some_if _ Truth (both_wanted Truth x y p q e)
class_typed Equality x y p q e = some_if _ Truth (both_alike x y q e)
class_typed Order x y p q e = some_if _ Truth (both_wanted Number x y p q e)
class_typed Arithmetic x y p q e = some_if _ Number (both_wanted Number x y p q e)

operands_typed : (c : OperatorClass) (a b : Option ValueType) (p q : ℕ) → Typed a → Typed b → operand_refusals c a p b q ≡ []
    → Typed (type_by c a b)
operands_typed c a b p q left right e =
    let same = ap (λ x. operand_refusals c x p b q) left.1 ∙ ap (λ y. operand_refusals c (Some left.0) p y q) right.1 in
    let h = class_typed c left.0 right.0 p q (sym same ∙ e) in
    (h.0, ap (λ x. type_by c x b) left.1 ∙ ap (λ y. type_by c (Some left.0) y) right.1 ∙ h.1)

value_name_typed : (o : Option NameSort) (offset : ℕ) → value_name_refusals o offset ≡ [] → Typed (type_of_name o)
value_name_typed None offset e = absurd (cc)
value_name_typed (Some ForVariable) offset e = (Number, refl)
value_name_typed (Some ForFlag) offset e = (Truth, refl)
value_name_typed (Some (ForHeld d)) offset e = absurd (cc)
value_name_typed (Some ForInput) offset e = absurd (cc)
value_name_typed (Some ForOutput) offset e = absurd (cc)
value_name_typed (Some ForLoopVariable) offset e = (Number, refl)

wanted_type : (wanted t : ValueType) (offset : ℕ) → refusal_if (not (same_type wanted t)) E8 offset ≡ [] → wanted ≡ t
wanted_type Number Number offset e = refl
wanted_type Number Truth offset e = absurd (cc)
wanted_type Truth Number offset e = absurd (cc)
wanted_type Truth Truth offset e = refl

type_wanted : (wanted : ValueType) (o : Option ValueType) (offset : ℕ) → Typed o → type_refusals wanted o offset ≡ [] → o ≡ Some wanted
type_wanted wanted o offset typed e =
    typed.1 ∙ ap (λ t. Some t) (sym (wanted_type wanted typed.0 offset (sym (ap (λ x. type_refusals wanted x offset) typed.1) ∙ e)))

same_if : (t : ValueType) → type_if (same_type t t) t ≡ Some t
same_if Number = refl
same_if Truth = refl

module _ (known : Known) where
  expression_typed : (e : Expression) → expression_refusals known e ≡ [] → Typed (type_of known e)
  expression_typed (Literal n) none = (Number, refl)
  expression_typed (TruthValue offset value) none = (Truth, refl)
  expression_typed (Named name) none = value_name_typed (known.sort name.number) name.offset none
  expression_typed (Parens offset e) none = expression_typed e none
  expression_typed (Prefixed operator offset e) none =
      let wanted = type_of_prefix operator in
      let both = both_nil (expression_refusals known e) (type_refusals wanted (type_of known e) (first_offset e)) none in
      let of_wanted = type_wanted wanted (type_of known e) (first_offset e) (expression_typed e both.0) both.1 in
      (wanted, ap (λ o. type_if (is_of wanted o) wanted) of_wanted ∙ same_if wanted)
  expression_typed (Binary o a b) none =
      let operands = operand_refusals (class_of o) (type_of known a) (first_offset a) (type_of known b) (first_offset b) in
      let left = both_nil (expression_refusals known a) (expression_refusals known b ++ operands) none in
      let right = both_nil (expression_refusals known b) operands left.1 in
      operands_typed (class_of o) (type_of known a) (type_of known b) (first_offset a) (first_offset b) (expression_typed a left.0)
      (expression_typed b right.0) right.1
  expression_typed (Call c offset x) none =
      let w = wanted_by c in
      some_if (is_readable w known.rule (known.sort x.number)) Number (held_name_known w known.rule (known.sort x.number) x.offset none)
  expression_typed (Elapsed offset) none = some_if (knows_elapsed known.rule) Number (not_false _ (not_refused _ _ _ none))
  expression_typed (Times offset e bag) none =
      let typed = type_refusals Number (type_of known e) (first_offset e) in
      let named = held_name_refusals wanted.Bag known.rule (known.sort bag.number) bag.offset in
      let left = both_nil (expression_refusals known e) (typed ++ named) none in
      let right = both_nil typed named left.1 in
      let of_wanted = type_wanted Number (type_of known e) (first_offset e) (expression_typed e left.0) right.0 in
      let readable = held_name_known wanted.Bag known.rule (known.sort bag.number) bag.offset right.1 in
      let is_number = ap (is_of Number) of_wanted in
      some_if _ Number
      (and_true (is_of Number (type_of known e)) (is_readable wanted.Bag known.rule (known.sort bag.number)) is_number readable)

  pub index_typed : (wanted : ValueType) (e : Expression) → offset_refusals wanted known e ≡ [] → type_of known e ≡ Some wanted
  index_typed wanted e none =
      let both = both_nil (expression_refusals known e) (type_refusals wanted (type_of known e) (first_offset e)) none in
      type_wanted wanted (type_of known e) (first_offset e) (expression_typed e both.0) both.1

-- ---- Its values are of this type

-- the type of a value
abbrev pub OfType : ValueType → Value → Type 0
OfType t v = is_of_type t v ≡ true

of_type_if : (b : Bool) (t u : ValueType) (r : Result Value Fault) → type_if b t ≡ Some u → IfOk r (OfType t) → IfOk r (OfType u)
of_type_if true t u r e h = let same : t ≡ u = cc in rw (← same) h
of_type_if false t u r e h = absurd (cc)

kept_number : (n : ℤ) → IfOk (number_or_overflow n) (OfType Number)
kept_number n = if_ok_branch (is_kept n) (Ok (value.Number n)) (Err fault.Overflow) (OfType Number) refl tt

quotient_number : (a b : ℤ) → IfOk (quotient a b) (OfType Number)
quotient_number a b =
    if_ok_branch (int_eq b (pos 0)) (Err fault.Divide) (number_or_overflow (int_div a b)) (OfType Number) tt (kept_number (int_div a b))

remainder_number : (a b : ℤ) → IfOk (remainder a b) (OfType Number)
remainder_number a b =
    if_ok_branch (int_eq b (pos 0)) (Err fault.Divide) (Ok (value.Number (int_rem a b))) (OfType Number) tt refl

result_typed : (o : Operator) (a b : Option ValueType) (t : ValueType) (x y : Value) → type_by (class_of o) a b ≡ Some t
    → IfOk (operator_result o x y) (OfType t)
result_typed Or a b t x y typed = of_type_if _ Truth t (operator_result Or x y) typed refl
result_typed And a b t x y typed = of_type_if _ Truth t (operator_result And x y) typed refl
result_typed Add a b t x y typed = of_type_if _ Number t (operator_result Add x y) typed (kept_number (number_of x +ℤ number_of y))
result_typed Subtract a b t x y typed =
    of_type_if _ Number t (operator_result Subtract x y) typed (kept_number (number_of x -ℤ number_of y))
result_typed Multiply a b t x y typed =
    of_type_if _ Number t (operator_result Multiply x y) typed (kept_number (number_of x *ℤ number_of y))
result_typed Divide a b t x y typed =
    of_type_if _ Number t (operator_result Divide x y) typed (quotient_number (number_of x) (number_of y))
result_typed Remainder a b t x y typed =
    of_type_if _ Number t (operator_result Remainder x y) typed (remainder_number (number_of x) (number_of y))
result_typed Equal a b t x y typed = of_type_if _ Truth t (operator_result Equal x y) typed refl
result_typed Unequal a b t x y typed = of_type_if _ Truth t (operator_result Unequal x y) typed refl
result_typed Less a b t x y typed = of_type_if _ Truth t (operator_result Less x y) typed refl
result_typed AtMost a b t x y typed = of_type_if _ Truth t (operator_result AtMost x y) typed refl
result_typed Greater a b t x y typed = of_type_if _ Truth t (operator_result Greater x y) typed refl
result_typed AtLeast a b t x y typed = of_type_if _ Truth t (operator_result AtLeast x y) typed refl

abbrev ok_truth : Bool → Result Value Fault
ok_truth b = Ok (value.Truth b)

-- where the left operand decides, the value is its truth value
decided_typed : (o : Operator) (a b : Option ValueType) (t : ValueType) (x : Value) → is_decided o x ≡ true
    → type_by (class_of o) a b ≡ Some t → OfType t (value.Truth (truth_of x))
decided_typed Or a b t x decided typed = of_type_if _ Truth t (ok_truth (truth_of x)) typed refl
decided_typed And a b t x decided typed = of_type_if _ Truth t (ok_truth (truth_of x)) typed refl
decided_typed Add a b t x decided typed = absurd (cc)
decided_typed Subtract a b t x decided typed = absurd (cc)
decided_typed Multiply a b t x decided typed = absurd (cc)
decided_typed Divide a b t x decided typed = absurd (cc)
decided_typed Remainder a b t x decided typed = absurd (cc)
decided_typed Equal a b t x decided typed = absurd (cc)
decided_typed Unequal a b t x decided typed = absurd (cc)
decided_typed Less a b t x decided typed = absurd (cc)
decided_typed AtMost a b t x decided typed = absurd (cc)
decided_typed Greater a b t x decided typed = absurd (cc)
decided_typed AtLeast a b t x decided typed = absurd (cc)

-- the right operand is asked where the left one does not decide
asked_typed : (c : Bool) (o : Operator) (a b : Option ValueType) (t : ValueType) (x : Value) (right : Result Value Fault)
    → is_decided o x ≡ c → type_by (class_of o) a b ≡ Some t
    → IfOk (if c then ok_truth (truth_of x) else (right >>= λ y. operator_result o x y)) (OfType t)
asked_typed true o a b t x right decided typed = decided_typed o a b t x decided typed
asked_typed false o a b t x right asked typed =
    if_ok_after right (operator_result o x) (OfType t) (λ y. result_typed o a b t x y typed)

end_typed : (o : Option ℤ) → IfOk (number_or_empty o) (OfType Number)
end_typed None = tt
end_typed (Some n) = refl

call_typed : (c : BagCall) (x : Collection) → IfOk (call_result c x) (OfType Number)
call_typed Size x = refl
call_typed Sum x = if_ok_after (sum_or_overflow (bag_or_none x)) (λ n. Ok (value.Number n)) (OfType Number) (λ n. refl)
call_typed Least x = end_typed (least (bag_or_none x))
call_typed Most x = end_typed (most (bag_or_none x))
call_typed Front x = end_typed (first (queue_or_none x))

prefix_typed : (o : Prefix) (b : Bool) (t : ValueType) (x : Value) → type_if b (type_of_prefix o) ≡ Some t
    → IfOk (prefix_result o x) (OfType t)
prefix_typed Minus b t x typed = of_type_if b Number t (prefix_result Minus x) typed (kept_number (neg_ℤ (number_of x)))
prefix_typed Not b t x typed = of_type_if b Truth t (prefix_result Not x) typed refl

name_stored : (o : Option NameSort) (t : ValueType) → is_of_loop o ≡ false → type_of_name o ≡ Some t → is_stored o ≡ true
name_stored None t outside e = absurd (cc)
name_stored (Some ForVariable) t outside e = refl
name_stored (Some ForFlag) t outside e = refl
name_stored (Some (ForHeld d)) t outside e = refl
name_stored (Some ForInput) t outside e = absurd (cc)
name_stored (Some ForOutput) t outside e = absurd (cc)
name_stored (Some ForLoopVariable) t outside e = absurd (cc)

-- a datum of a domain is of the type of its names
datum_typed : (o : Domain) (d : Datum) (t : ValueType) → datum_fits o d ≡ true → type_of_name (Some (sort_of_domain o)) ≡ Some t
    → is_of_type t (value_of_datum (Some d)) ≡ true
datum_typed (domain.Number range) (datum.Number n) t fit typed = let same : Number ≡ t = cc in rw (← same) refl
datum_typed (domain.Number range) (datum.Flag b) t fit typed = absurd (cc)
datum_typed (domain.Number range) (datum.Held c) t fit typed = absurd (cc)
datum_typed (domain.Flag start) (datum.Number n) t fit typed = absurd (cc)
datum_typed (domain.Flag start) (datum.Flag b) t fit typed = let same : Truth ≡ t = cc in rw (← same) refl
datum_typed (domain.Flag start) (datum.Held c) t fit typed = absurd (cc)
datum_typed (domain.Held discipline capacity) d t fit typed = absurd (cc)

value_held : (scope : Scope) (s : State) (q : ℕ) (d : Domain) (h : HoldsDatum scope s q d)
    → value_of_datum (datum_of_name scope s q) ≡ value_of_datum (Some h.datum)
value_held scope s q d h = ap (λ o. value_of_datum (datum_at s.variables o)) h.found ∙ ap value_of_datum h.there

-- in the block of one loop more
typed_if : (b : Bool) (o : Option NameSort) (t : ValueType) (n : ℤ) (outer : Option ℤ) (v : Value)
    → type_of_name (if b then Some ForLoopVariable else o) ≡ Some t
    → (type_of_name o ≡ Some t → is_of_type t (value_in_loop outer v) ≡ true)
    → is_of_type t (value_in_loop (if b then Some n else outer) v) ≡ true
typed_if true o t n outer v typed later = let same : Number ≡ t = cc in rw (← same) refl
typed_if false o t n outer v typed later = later typed

module _ (m : AtomicTree) (s : State) (fit : fits_in (scope_of m) s ≡ true) where
  stored_typed : (q : ℕ) (t : ValueType) → type_of_name (sort_in m.declarations q) ≡ Some t
      → is_of_type t (value_of_datum (datum_of_name (scope_of m) s q)) ≡ true
  stored_typed q t typed =
      let stored = name_stored (sort_in m.declarations q) t (of_no_loop q m.declarations) typed in
      let named = sort_named m q stored in
      let holds = datum_held (scope_of m) s q named.0 fit named.1 in
      ap (is_of_type t) (value_held (scope_of m) s q named.0 holds)
      ∙ datum_typed named.0 holds.datum t holds.fitting (ap type_of_name named.2 ∙ typed)

  name_typed : (rule : Option RuleSort) (arrivals : Arrivals) (bound : List (Name × ℤ)) (q : ℕ) (t : ValueType)
      → type_of_name ((known_within bound (known_in_rule rule (known_in m))).sort q) ≡ Some t
      → is_of_type t (value_of_name (scope_of m) (moment_in (context_within arrivals bound) s) q) ≡ true
  name_typed rule arrivals [] q t typed = stored_typed q t typed
  name_typed rule arrivals (l ∷ bound) q t typed =
      let outer = loop_value q (values_within bound) in
      let stored = value_of_datum (datum_of_name (scope_of m) s q) in
      let around = (known_within bound (known_in_rule rule (known_in m))).sort q in
      typed_if (l.0.number == q) around t l.1 outer stored typed (name_typed rule arrivals bound q t)

module _ (m : AtomicTree) (rule : Option RuleSort) (arrivals : Arrivals) (bound : List (Name × ℤ)) (s : State)
    (fit : fits_in (scope_of m) s ≡ true) where
  abbrev known : Known
  known = known_within bound (known_in_rule rule (known_in m))

  abbrev given : Expression → Result Value Fault
  given e = meaning (scope_of m) (moment_in (context_within arrivals bound) s) e

  pub value_typed : (e : Expression) (t : ValueType) → type_of known e ≡ Some t → IfOk (given e) (OfType t)
  value_typed (Literal n) t typed = let same : Number ≡ t = cc in rw (← same) refl
  value_typed (TruthValue offset b) t typed = let same : Truth ≡ t = cc in rw (← same) refl
  value_typed (Named name) t typed = name_typed m s fit rule arrivals bound name.number t typed
  value_typed (Parens offset e) t typed = value_typed e t typed
  value_typed (Prefixed o offset e) t typed =
      if_ok_after (given e) (prefix_result o) (OfType t) (λ x. prefix_typed o _ t x typed)
  value_typed (Binary o a b) t typed =
      if_ok_after (given a) _ (OfType t) (λ x.
      asked_typed (is_decided o x) o (type_of known a) (type_of known b) t x (given b) refl typed)
  value_typed (Call c offset b) t typed =
      let asked = collection_of_name (scope_of m) (moment_in (context_within arrivals bound) s) b.number in
      of_type_if _ Number t (call_result c asked) typed (call_typed c asked)
  value_typed (Elapsed offset) t typed =
      of_type_if _ Number t (number_or_overflow (pos arrivals.elapsed)) typed (kept_number (pos arrivals.elapsed))
  value_typed (Times offset e b) t typed =
      of_type_if _ Number t (given (Times offset e b)) typed (if_ok_after (given e) _ (OfType Number) (λ x. refl))
