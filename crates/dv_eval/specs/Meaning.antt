-- The meaning of expressions, rules and holds, by recursion on the tree: a value or an effect, or the first fault from the left. A checked
-- model declares its names and gives every operator the right types. In other models an unknown name counts as 0 or as an empty bag, a bag
-- as an empty queue and a queue as an empty bag, and a truth value as 0 or 1.
use Rattle.std.specs.Prelude.{ℕ, ℤ, pos, negsuc, neg_ℤ, ◌+ℤ◌, ◌-ℤ◌, ◌*ℤ◌, Bool, true, false, not, ◌&&◌, ◌||◌, if◌then◌else◌, ◌==◌}
use Rattle.std.specs.Prelude.{nat_le, int_lt, List, [], ◌∷◌, length, replicate, slice_get, slice_set, Option, Some, None, Result}
use Rattle.std.specs.Prelude.{Ok, Err}
use Rattle.std.specs.Ordering.{int_eq}
use Rattle.dv_syntax.specs.Trees.{Expression, Literal, TruthValue, Named, Parens, Prefixed, Binary, Call, Elapsed, Times}
use Rattle.dv_syntax.specs.Trees.{Statements, Done, Assign, Does, Send, If, IfElse, For, Changes}
use Rattle.dv_syntax.specs.declared.tree.Command.{Command}
use Rattle.dv_syntax.specs.declared.tree.Command.TheVariants as command
use Rattle.dv_syntax.specs.declared.tree.Prefix.{Prefix}
use Rattle.dv_syntax.specs.declared.tree.Prefix.TheVariants.{Minus, Not}
use Rattle.dv_syntax.specs.declared.tree.Operator.{Operator}
use Rattle.dv_syntax.specs.declared.tree.Operator.TheVariants.{Or, And, Add, Subtract, Multiply, Divide as DivideBy, Remainder}
use Rattle.dv_syntax.specs.declared.tree.Operator.TheVariants.{Equal, Unequal, Less, AtMost, Greater, AtLeast}
use Rattle.dv_syntax.specs.declared.tree.BagCall.{BagCall}
use Rattle.dv_syntax.specs.declared.tree.BagCall.TheVariants.{Size, Sum, Least, Most, Front}
use Rattle.dv_bag.specs.Arithmetic.{number_or_empty, number_or_overflow, quotient, remainder}
use Rattle.dv_bag.specs.Arrivals.{Arrivals, nothing_arrived}
use Rattle.dv_bag.specs.Bag.{Counts, bag_at, count_of, least, most, sum_or_overflow, total_of_all, with_copies}
use Rattle.dv_bag.specs.Collections.{changed, count_in, popped, values_in}
use Rattle.dv_bag.specs.Reading.{held_at}
use Rattle.dv_bag.specs.Effects.{is_within, with_collection, with_datum, with_state}
use Rattle.dv_bag.specs.Outcome.{◌>>=◌}
use Rattle.dv_bag.specs.declared.collection.Collection.{Collection}
use Rattle.dv_bag.specs.declared.collection.Collection.TheVariants as collection
use Rattle.dv_bag.specs.declared.discipline.Change.{Change}
use Rattle.dv_bag.specs.declared.value.Value.{Value}
use Rattle.dv_bag.specs.declared.value.Value.TheVariants.{Number, Truth}
use Rattle.dv_bag.specs.declared.fault.Fault.{Fault}
use Rattle.dv_bag.specs.declared.fault.Fault.TheVariants.{Range, Negative as BelowZero, Flood}
use Rattle.dv_bag.specs.declared.state.Datum.{Datum}
use Rattle.dv_bag.specs.declared.state.Datum.TheVariants as datum
use Rattle.dv_bag.specs.declared.state.State.{State}
use Rattle.dv_bag.specs.declared.state.Effect.{Effect}
use Rattle.dv_eval.specs.Scope.{Scope, index_of, names_of}
use Rattle.dv_bag.specs.Limits.{greatest_count}
use Rattle.dv_eval.specs.declared.scope.VariableRange.{VariableRange}
use Rattle.dv_eval.specs.declared.scope.Domain.{Domain}
use Rattle.dv_eval.specs.declared.scope.Domain.TheVariants as domain

-- a value as a number, and as a truth value
abbrev pub number_of : Value → ℤ
number_of (Number n) = n
number_of (Truth true) = pos 1
number_of (Truth false) = pos 0

abbrev pub truth_of : Value → Bool
truth_of (Truth b) = b
truth_of (Number n) = not (int_eq n (pos 0))

-- the same number, or the same truth value
abbrev pub same : Value → Value → Bool
same (Number a) (Number b) = int_eq a b
same (Number a) (Truth b) = int_eq a (number_of (Truth b))
same (Truth a) b = int_eq (number_of (Truth a)) (number_of b)

-- the result of a prefix operator
abbrev pub prefix_result : Prefix → Value → Result Value Fault
prefix_result Minus v = number_or_overflow (neg_ℤ (number_of v))
prefix_result Not v = Ok (Truth (not (truth_of v)))

-- whether the left operand decides: false and .., true or ..
abbrev pub is_decided : Operator → Value → Bool
is_decided And v = not (truth_of v)
is_decided Or v = truth_of v
is_decided operator v = false

-- the result of a binary operator
abbrev pub operator_result : Operator → Value → Value → Result Value Fault
operator_result Or a b = Ok (Truth (truth_of a || truth_of b))
operator_result And a b = Ok (Truth (truth_of a && truth_of b))
operator_result Add a b = number_or_overflow (number_of a +ℤ number_of b)
operator_result Subtract a b = number_or_overflow (number_of a -ℤ number_of b)
operator_result Multiply a b = number_or_overflow (number_of a *ℤ number_of b)
operator_result DivideBy a b = quotient (number_of a) (number_of b)
operator_result Remainder a b = remainder (number_of a) (number_of b)
operator_result Equal a b = Ok (Truth (same a b))
operator_result Unequal a b = Ok (Truth (not (same a b)))
operator_result Less a b = Ok (Truth (int_lt (number_of a) (number_of b)))
operator_result AtMost a b = Ok (Truth (not (int_lt (number_of b) (number_of a))))
operator_result Greater a b = Ok (Truth (int_lt (number_of b) (number_of a)))
operator_result AtLeast a b = Ok (Truth (not (int_lt (number_of a) (number_of b))))

abbrev pub value_of_datum : Option Datum → Value
value_of_datum (Some (datum.Number n)) = Number n
value_of_datum (Some (datum.Flag b)) = Truth b
value_of_datum (Some (datum.Held c)) = Number (pos 0)
value_of_datum None = Number (pos 0)

abbrev pub datum_at : List Datum → Option ℕ → Option Datum
datum_at contents None = None
datum_at contents (Some index) = slice_get contents index

-- what a statement can read beside the state: what arrived, and the values of the enclosing loops' variables by name, the innermost first
pub record Context : Type 0 where
  pub arrivals : Arrivals
  pub loops : List (ℕ × ℤ)

-- outside of all loops
abbrev pub outermost : Arrivals → Context
outermost arrivals = record { arrivals = arrivals; loops = [] }

-- within one more loop
abbrev pub in_loop : ℕ × ℤ → Context → Context
in_loop l context = record { arrivals = context.arrivals; loops = l ∷ context.loops }

-- what an expression can read
pub record Moment : Type 0 where
  pub state : State
  pub context : Context

abbrev pub moment_in : Context → State → Moment
moment_in context s = record { state = s; context = context }

-- the value of the innermost loop variable of a name, if there is one
abbrev pub loop_value : ℕ → List (ℕ × ℤ) → Option ℤ
loop_value name [] = None
loop_value name (l ∷ loops) = if l.0 == name then Some l.1 else loop_value name loops

-- the state variable of a name
abbrev pub datum_of_name : Scope → State → ℕ → Option Datum
datum_of_name scope s name = datum_at s.variables (index_of name (names_of scope.variables))

abbrev pub value_in_loop : Option ℤ → Value → Value
value_in_loop None v = v
value_in_loop (Some n) v = Number n

-- what a name denotes: the innermost loop variable of that name, else the state variable
abbrev pub value_of_name : Scope → Moment → ℕ → Value
value_of_name scope m name = value_in_loop (loop_value name m.context.loops) (value_of_datum (datum_of_name scope m.state name))

-- the bag that arrived at an input port; the empty bag if there is no such port
abbrev pub bag_received : Arrivals → Option ℕ → Counts
bag_received arrivals None = []
bag_received arrivals (Some port) = bag_at arrivals.received port

-- the collection of the state variable at an index; if there is no variable, the bag that arrived at a port
abbrev pub collection_between : Moment → Option ℕ → Option ℕ → Collection
collection_between m (Some index) port = held_at m.state.variables index
collection_between m None port = collection.Bag (bag_received m.context.arrivals port)

-- the collection that a name denotes: a state variable's, else an input port's bag; the empty bag if there is neither
abbrev pub collection_of_name : Scope → Moment → ℕ → Collection
collection_of_name scope m name = collection_between m (index_of name (names_of scope.variables)) (index_of name scope.inputs)

-- the counts of a bag; a queue is read as the empty bag
abbrev pub bag_or_none : Collection → Counts
bag_or_none (collection.Bag b) = b
bag_or_none (collection.Queue q) = []

-- the values of a queue; a bag is read as the empty queue
abbrev pub queue_or_none : Collection → List ℤ
queue_or_none (collection.Bag b) = []
queue_or_none (collection.Queue q) = q

abbrev pub first : List ℤ → Option ℤ
first [] = None
first (n ∷ ns) = Some n

-- the result of a call: the number of values of a bag or a queue; the exact sum, the least or the greatest value of a bag; the first value
-- of a queue
abbrev pub call_result : BagCall → Collection → Result Value Fault
call_result Size c = Ok (Number (pos (count_in c)))
call_result Sum c = sum_or_overflow (bag_or_none c) >>= λ n. Ok (Number n)
call_result Least c = number_or_empty (least (bag_or_none c))
call_result Most c = number_or_empty (most (bag_or_none c))
call_result Front c = number_or_empty (first (queue_or_none c))

-- the value of an expression at a moment; if the left operand decides, the right one is not evaluated
abbrev pub meaning : Scope → Moment → Expression → Result Value Fault
meaning scope m (Literal n) = Ok (Number (pos n.value))
meaning scope m (TruthValue offset b) = Ok (Truth b)
meaning scope m (Named name) = Ok (value_of_name scope m name.number)
meaning scope m (Parens offset e) = meaning scope m e
meaning scope m (Prefixed operator offset e) = meaning scope m e >>= λ v. prefix_result operator v
meaning scope m (Binary operator a b) =
    meaning scope m a >>= λ x.
    if is_decided operator x then Ok (Truth (truth_of x)) else (meaning scope m b >>= λ y. operator_result operator x y)
meaning scope m (Call call offset b) = call_result call (collection_of_name scope m b.number)
meaning scope m (Elapsed offset) = number_or_overflow (pos m.context.arrivals.elapsed)
meaning scope m (Times offset e b) =
    meaning scope m e >>= λ v. Ok (Number (pos (count_of (number_of v) (bag_or_none (collection_of_name scope m b.number)))))

-- a number is assigned to the variable at an index, if it is within the range
abbrev pub assignment_in_range : VariableRange → ℕ → ℤ → Effect → Result Effect Fault
assignment_in_range range index n e =
    if is_within range.low range.high n then Ok (with_state e (with_datum e.state index (datum.Number n))) else Err Range

-- a value is assigned to the state variable at an index; a flag gets the truth value
abbrev pub assignment_in_domain : Domain → ℕ → Value → Effect → Result Effect Fault
assignment_in_domain (domain.Number range) index v e = assignment_in_range range index (number_of v) e
assignment_in_domain (domain.Flag start) index v e = Ok (with_state e (with_datum e.state index (datum.Flag (truth_of v))))
assignment_in_domain (domain.Held d capacity) index v e = Ok e

abbrev pub assignment_to : Option (ℕ × Domain) → ℕ → Value → Effect → Result Effect Fault
assignment_to None index v e = Ok e
assignment_to (Some variable) index v e = assignment_in_domain variable.1 index v e

abbrev pub assignment_at : Scope → Option ℕ → Value → Effect → Result Effect Fault
assignment_at scope None v e = Ok e
assignment_at scope (Some index) v e = assignment_to (slice_get scope.variables index) index v e

-- an assignment to a variable or a flag
abbrev pub assignment : Scope → ℕ → Value → Effect → Result Effect Fault
assignment scope name v e = assignment_at scope (index_of name (names_of scope.variables)) v e

-- one more value is sent at a port
abbrev pub with_value_at : Option ℕ → ℤ → Effect → Effect
with_value_at None n e = e
with_value_at (Some port) n e =
    record { state = e.state; sent = slice_set e.sent port (with_copies n 1 (bag_at e.sent port)); goto = e.goto }

-- a number is sent at an output port; the 4,097th of one output is a flood
abbrev pub sending : Scope → ℕ → Value → Effect → Result Effect Fault
sending scope port v e =
    if nat_le greatest_count (total_of_all e.sent) then Err Flood
    else Ok (with_value_at (index_of port scope.outputs) (number_of v) e)

-- the number of values that a bag or a queue of the state may hold
abbrev pub capacity_in : Domain → Option ℕ
capacity_in (domain.Number range) = None
capacity_in (domain.Flag start) = None
capacity_in (domain.Held d capacity) = Some capacity

abbrev pub capacity_of : Option (ℕ × Domain) → Option ℕ
capacity_of None = None
capacity_of (Some variable) = capacity_in variable.1

-- the collection at an index is replaced; if the new one is missing, nothing changes
abbrev pub with_made : ℕ → Effect → Option (Result Collection Fault) → Result Effect Fault
with_made index e None = Ok e
with_made index e (Some r) = r >>= λ c. Ok (with_collection e index c)

-- a number changes the collection at an index, which has a capacity; if there is none of the right discipline, nothing changes
abbrev pub changing_to : Change → Option ℕ → Option Datum → ℕ → ℤ → Effect → Result Effect Fault
changing_to c (Some capacity) (Some (datum.Held held)) index n e = with_made index e (changed c capacity n held)
changing_to c capacity content index n e = Ok e

abbrev pub changing_at : Scope → Change → Option ℕ → ℤ → Effect → Result Effect Fault
changing_at scope c None n e = Ok e
changing_at scope c (Some index) n e =
    changing_to c (capacity_of (slice_get scope.variables index)) (slice_get e.state.variables index) index n e

-- a number changes a collection of the state
abbrev pub changing : Scope → Change → ℕ → ℤ → Effect → Result Effect Fault
changing scope c name n e = changing_at scope c (index_of name (names_of scope.variables)) n e

-- the first value of the queue at an index is removed; if there is no queue, nothing changes
abbrev pub popping_from : Option Datum → ℕ → Effect → Result Effect Fault
popping_from (Some (datum.Held held)) index e = with_made index e (popped held)
popping_from content index e = Ok e

abbrev pub popping_at : Option ℕ → Effect → Result Effect Fault
popping_at None e = Ok e
popping_at (Some index) e = popping_from (slice_get e.state.variables index) index e

-- the first value of a queue of the state is removed
abbrev pub popping : Scope → ℕ → Effect → Result Effect Fault
popping scope name e = popping_at (index_of name (names_of scope.variables)) e

abbrev pub with_goto : Option ℕ → Effect → Effect
with_goto None e = e
with_goto (Some phase) e = record { state = e.state; sent = e.sent; goto = Some phase }

-- the effect of a command with a name
abbrev pub command_effect : Scope → Command → ℕ → Effect → Result Effect Fault
command_effect scope command.Goto name e = Ok (with_goto (index_of name scope.phases) e)
command_effect scope command.Pop name e = popping scope name e

-- a step for each of several values, one after the other; the first fault ends it
abbrev pub repetition : (ℤ → Effect → Result Effect Fault) → List ℤ → Effect → Result Effect Fault
repetition step [] e = Ok e
repetition step (n ∷ ns) e = step n e >>= repetition step ns

-- the value of an expression in the state of an effect
abbrev pub value_within : Scope → Context → Effect → Expression → Result Value Fault
value_within scope context e value = meaning scope (moment_in context e.state) value

-- The effect of a list of statements, one after the other; the last goto that ran counts. A loop goes over the values that its bag or queue
-- had when the loop began: those of a bag in ascending order, each copy once, those of a queue from the first on.
abbrev pub run : Scope → Context → Statements → Effect → Result Effect Fault
run scope context Done e = Ok e
run scope context (Assign variable value rest) e =
    value_within scope context e value >>= λ v. assignment scope variable.number v e >>= run scope context rest
run scope context (Does c offset name rest) e = command_effect scope c name.number e >>= run scope context rest
run scope context (Send offset port value rest) e =
    value_within scope context e value >>= λ v. sending scope port.number v e >>= run scope context rest
run scope context (If offset condition block rest) e =
    value_within scope context e condition >>= λ v. (if truth_of v then run scope context block e else Ok e) >>= run scope context rest
run scope context (IfElse offset condition block other rest) e =
    value_within scope context e condition
    >>= λ v. (if truth_of v then run scope context block e else run scope context other e) >>= run scope context rest
run scope context (For offset v b block rest) e =
    repetition
    (λ n. run scope (in_loop (v.number, n) context) block) (values_in (collection_of_name scope (moment_in context e.state) b.number)) e
    >>= run scope context rest
run scope context (Changes c offset value x rest) e =
    value_within scope context e value >>= λ v. changing scope c x.number (number_of v) e >>= run scope context rest

-- the effect of a rule on a state, with what arrived
abbrev pub effect_of : Scope → Statements → Arrivals → State → Result Effect Fault
effect_of scope body arrivals s =
    run scope (outermost arrivals) body (record { state = s; sent = replicate (length scope.outputs) []; goto = None })

-- ticks, which must not be below 0
abbrev pub ticks_from : ℤ → Result (Option ℕ) Fault
ticks_from (pos n) = Ok (Some n)
ticks_from (negsuc n) = Err BelowZero

-- the ticks of a hold, or forever
abbrev pub hold_of : Scope → Option Expression → State → Result (Option ℕ) Fault
hold_of scope None s = Ok None
hold_of scope (Some e) s = meaning scope (moment_in (outermost nothing_arrived) s) e >>= λ v. ticks_from (number_of v)
