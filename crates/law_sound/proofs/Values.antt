-- What expressions give are numbers of the language.
use Rattle.std.proofs.Common.{◌≡◌, ℕ, zero, suc, ◌+◌, ◌-◌, ◌^◌, ◌≤◌, Bool, true, false, not, ◌&&◌, ◌==◌, cond, nat_le, nat_lt}
use Rattle.std.proofs.Common.{List, [], ◌∷◌, ℤ, pos, negsuc, neg_ℤ, ◌+ℤ◌, ◌-ℤ◌, ◌*ℤ◌, ◌||◌, int_lt, Option, Some, None, Ok, Err}
use Rattle.std.proofs.Common.{IfOk, IsTrue, refl, sym, ap, ◌∙◌, arith}
use Rattle.std.specs.Prelude.{slice_get, int_div, int_rem}
use Rattle.std.specs.List.{list_all}
use Rattle.std.specs.Ordering.{int_cmp, int_eq, match_ordering}
use Rattle.std.specs.declared.cmp.Ordering.{Ordering}
use Rattle.std.specs.declared.cmp.Ordering.TheVariants as order
use Rattle.std.proofs.lemmas.Bool.{and_parts}
use Rattle.std.proofs.lemmas.Bool.Decides.{nat_tests}
use lib.Signed.{mag, mag_rem}
use Rattle.dv_syntax.specs.Trees.{Expression, Literal, TruthValue, Named, Parens, Prefixed, Binary, Call, Elapsed, Times}
use Rattle.dv_syntax.specs.declared.tree.Prefix.{Prefix}
use Rattle.dv_syntax.specs.declared.tree.Prefix.TheVariants as prefix
use Rattle.dv_syntax.specs.declared.tree.Operator.{Operator}
use Rattle.dv_syntax.specs.declared.tree.Operator.TheVariants as operator
use Rattle.dv_syntax.specs.declared.tree.BagCall.{BagCall}
use Rattle.dv_syntax.specs.declared.tree.BagCall.TheVariants as call
use Rattle.dv_bag.specs.Arithmetic.{number_or_empty, number_or_overflow, quotient, remainder}
use Rattle.dv_bag.specs.Arithmetic as arithmetic
use Rattle.dv_bag.specs.Bag.{Counts, bag_at, count_of, is_number, least, most, size, sum_of, sum_or_overflow, total}
use Rattle.dv_bag.specs.Collections.{count_in}
use Rattle.dv_bag.specs.Outcome.{◌>>=◌}
use Rattle.dv_bag.specs.Reading.{held_of_datum}
use Rattle.dv_bag.specs.Limits.{greatest_count}
use Rattle.dv_bag.specs.declared.collection.Collection.{Collection}
use Rattle.dv_bag.specs.declared.collection.Collection.TheVariants as collection
use Rattle.dv_bag.specs.declared.fault.Fault.TheVariants as fault
use Rattle.dv_bag.specs.declared.state.Datum.{Datum}
use Rattle.dv_bag.specs.declared.state.Datum.TheVariants as datum
use Rattle.dv_bag.specs.declared.value.Value.{Value}
use Rattle.dv_bag.specs.declared.value.Value.TheVariants as value
use Rattle.dv_devs.specs.Behaviour.{are_few}
use Rattle.dv_eval.specs.Scope.{Scope, names_of, index_of}
use Rattle.dv_eval.specs.Meaning.{Moment, bag_or_none, bag_received, call_result, collection_between, collection_of_name, datum_at}
use Rattle.dv_eval.specs.Meaning.{datum_of_name, first, is_decided, loop_value, meaning, number_of, operator_result, prefix_result}
use Rattle.dv_eval.specs.Meaning.{queue_or_none, same, truth_of, value_in_loop, value_of_datum, value_of_name}
use Rattle.law_accepted.proofs.Outcomes.{if_ok_branch, if_ok_then}
use Rattle.dv_conservative.specs.Sound.{are_of_numbers, is_of_numbers}
use Rattle.law_sound.specs.Kept.{are_kept, has_numbers, is_kept, names_numbers}

-- a value that is a number of the language
abbrev pub IsNumber : Value → Type 0
IsNumber v = IsTrue (is_number (number_of v))

truth_number : (b : Bool) → IsNumber (value.Truth b)
truth_number true = refl
truth_number false = refl

by_magnitude : (z : ℤ) → is_number z ≡ nat_lt (mag z) (2 ^ 63)
by_magnitude (pos n) = refl
by_magnitude (negsuc n) = refl

kept_number : (n : ℤ) → arithmetic.is_kept n ≡ true → is_number n ≡ true
kept_number (pos n) h = let parts = and_parts (not (int_lt (pos n) (neg_ℤ (pos (2 ^ 63))))) (int_lt (pos n) (pos (2 ^ 63))) h in parts.1
kept_number (negsuc n) h =
    let parts = and_parts (not (int_lt (negsuc n) (neg_ℤ (pos (2 ^ 63))))) (int_lt (negsuc n) (pos (2 ^ 63))) h in
    let low : not (nat_lt (2 ^ 63 - 1) n) ≡ true = parts.0 in
    grind (arith, nat_tests)

number_from : (n : ℤ) → IfOk (number_or_overflow n) IsNumber
number_from n = by_test (arithmetic.is_kept n) refl
  where
    by_test : (b : Bool) → arithmetic.is_kept n ≡ b → IfOk (cond b (Ok (value.Number n)) (Err fault.Overflow)) IsNumber
    by_test true h = kept_number n h
    by_test false h = tt

remainder_number : (a b : ℤ) → is_number a ≡ true → is_number (int_rem a b) ≡ true
remainder_number a b h =
    let small : nat_lt (mag a) (2 ^ 63) ≡ true = sym (by_magnitude a) ∙ h in
    let less : mag (int_rem a b) ≤ mag a = mag_rem a b in
    by_magnitude (int_rem a b) ∙ grind (arith, nat_tests)

-- elements of lists
all_get : {X : Type 0} (test : X → Bool) (xs : List X) (i : ℕ) (x : X) → list_all test xs ≡ true → slice_get xs i ≡ Some x → test x ≡ true
all_get test [] i x h e = absurd (cc)
all_get test (y ∷ ys) zero x h e =
    let parts = and_parts (test y) (list_all test ys) h in
    let same : y ≡ x = cc in
    ap test (sym same) ∙ parts.0
all_get test (y ∷ ys) (suc i) x h e = let parts = and_parts (test y) (list_all test ys) h in all_get test ys i x parts.1 e

pub bag_here : (bags : List Counts) (port : ℕ) → are_of_numbers bags ≡ true → is_of_numbers (bag_at bags port) ≡ true
bag_here [] zero h = refl
bag_here [] (suc port) h = refl
bag_here (b ∷ bs) zero h = let parts = and_parts (is_of_numbers b) (are_of_numbers bs) h in parts.0
bag_here (b ∷ bs) (suc port) h = let parts = and_parts (is_of_numbers b) (are_of_numbers bs) h in bag_here bs port parts.1

pub few_here : (bags : List Counts) (port : ℕ) → are_few bags ≡ true → total (bag_at bags port) ≤ greatest_count
few_here [] zero h = omega arith
few_here [] (suc port) h = omega arith
few_here (b ∷ bs) zero h =
    let parts = and_parts (nat_le (size b) greatest_count) (are_few bs) h in
    let few : size b ≤ 4096 = grind (arith, nat_tests, parts.0) in
    omega arith
few_here (b ∷ bs) (suc port) h = let parts = and_parts (nat_le (size b) greatest_count) (are_few bs) h in few_here bs port parts.1

-- bags and queues of numbers with few values
pub record IsFewNumbers (c : Collection) : Type 0 where
  pub numbers : has_numbers c ≡ true
  pub few : count_in c ≤ greatest_count

empty_few : IsFewNumbers (collection.Bag [])
empty_few = record { numbers = refl; few = omega arith }

held_few : (o : Option Datum) → ((d : Datum) → o ≡ Some d → is_kept d ≡ true) → IsFewNumbers (held_of_datum o)
held_few None h = empty_few
held_few (Some (datum.Number n)) h = empty_few
held_few (Some (datum.Flag b)) h = empty_few
held_few (Some (datum.Held c)) h =
    let parts = and_parts (has_numbers c) (nat_le (count_in c) greatest_count) (h (datum.Held c) refl) in
    record { numbers = parts.0; few = grind (arith, nat_tests, parts.1) }

-- what is known where an expression stands: numbers in the state, in what has arrived and in loops
pub record KnowsNumbers (m : Moment) : Type 0 where
  pub state : are_kept m.state.variables ≡ true
  pub received : are_of_numbers m.context.arrivals.received ≡ true
  pub few : are_few m.context.arrivals.received ≡ true
  pub loops : list_all (λ (l : ℕ × ℤ). is_number l.1) m.context.loops ≡ true

pub collection_named : (scope : Scope) (m : Moment) (name : ℕ) → KnowsNumbers m → IsFewNumbers (collection_of_name scope m name)
collection_named scope m name h = by_index (index_of name (names_of scope.variables)) (index_of name scope.inputs)
  where
    by_port : (port : Option ℕ) → IsFewNumbers (collection.Bag (bag_received m.context.arrivals port))
    by_port None = empty_few
    by_port (Some port) =
        record { numbers = bag_here m.context.arrivals.received port h.received; few = few_here m.context.arrivals.received port h.few }

    by_index : (index port : Option ℕ) → IsFewNumbers (collection_between m index port)
    by_index None port = by_port port
    by_index (Some index) port =
        held_few (slice_get m.state.variables index) (λ d e. all_get is_kept m.state.variables index d h.state e)

loop_number : (name : ℕ) (loops : List (ℕ × ℤ)) (v : Value) → list_all (λ (l : ℕ × ℤ). is_number l.1) loops ≡ true → IsNumber v →
    IsNumber (value_in_loop (loop_value name loops) v)
loop_number name [] v h n = n
loop_number name (l ∷ loops) v h n =
    let parts = and_parts (is_number l.1) (list_all (λ (l : ℕ × ℤ). is_number l.1) loops) h in
    by_test (l.0 == name) parts.0 (loop_number name loops v parts.1 n)
  where
    by_test : (t : Bool) → is_number l.1 ≡ true → IsNumber (value_in_loop (loop_value name loops) v) →
        IsNumber (value_in_loop (cond t (Some l.1) (loop_value name loops)) v)
    by_test true first rest = first
    by_test false first rest = rest

datum_number : (o : Option Datum) → ((d : Datum) → o ≡ Some d → is_kept d ≡ true) → IsNumber (value_of_datum o)
datum_number None h = refl
datum_number (Some (datum.Number n)) h = h (datum.Number n) refl
datum_number (Some (datum.Flag b)) h = truth_number b
datum_number (Some (datum.Held c)) h = refl

at_index : (contents : List Datum) (index : Option ℕ) (d : Datum) → are_kept contents ≡ true → datum_at contents index ≡ Some d →
    is_kept d ≡ true
at_index contents None d h e = absurd (cc)
at_index contents (Some index) d h e = all_get is_kept contents index d h e

named_number : (scope : Scope) (m : Moment) (name : ℕ) → KnowsNumbers m → IsNumber (value_of_name scope m name)
named_number scope m name h =
    loop_number name m.context.loops (value_of_datum (datum_of_name scope m.state name)) h.loops
    (datum_number (datum_of_name scope m.state name)
    (λ d e. at_index m.state.variables (index_of name (names_of scope.variables)) d h.state e))

-- calls
count_few : (v : ℤ) (b : Counts) → count_of v b ≤ total b
count_few v [] = omega arith
count_few v (p ∷ ps) = by_order (int_cmp v p.0) (count_few v ps)
  where
    by_order : (o : Ordering) → count_of v ps ≤ total ps → match_ordering o 0 p.1 (count_of v ps) ≤ p.1 + total ps
    by_order order.Less h = omega arith
    by_order order.Equal h = omega arith
    by_order order.Greater h = omega arith

small_number : (n : ℕ) → n ≤ 4096 → is_number (pos n) ≡ true
small_number n le = grind (arith, nat_tests)

least_number : (b : Counts) → is_of_numbers b ≡ true → IfOk (number_or_empty (least b)) IsNumber
least_number [] h = tt
least_number (p ∷ ps) h = let parts = and_parts (is_number p.0) (is_of_numbers ps) h in parts.0

most_number : (b : Counts) → is_of_numbers b ≡ true → IfOk (number_or_empty (most b)) IsNumber
most_number [] h = tt
most_number (p ∷ []) h = let parts = and_parts (is_number p.0) true h in parts.0
most_number (p ∷ q ∷ ps) h = let parts = and_parts (is_number p.0) (is_of_numbers (q ∷ ps)) h in most_number (q ∷ ps) parts.1

sum_number : (b : Counts) → IfOk (sum_or_overflow b >>= λ n. Ok (value.Number n)) IsNumber
sum_number b = by_test (is_number (sum_of b)) refl
  where
    by_test : (t : Bool) → is_number (sum_of b) ≡ t →
        IfOk ((cond t (Ok (sum_of b)) (Err fault.Overflow)) >>= λ n. Ok (value.Number n)) IsNumber
    by_test true h = h
    by_test false h = tt

first_number : (q : List ℤ) → list_all is_number q ≡ true → IfOk (number_or_empty (first q)) IsNumber
first_number [] h = tt
first_number (n ∷ q) h = let parts = and_parts (is_number n) (list_all is_number q) h in parts.0

-- what is read of a bag or a queue as one of the other
bag_numbers : (c : Collection) → has_numbers c ≡ true → is_of_numbers (bag_or_none c) ≡ true
bag_numbers (collection.Bag b) h = h
bag_numbers (collection.Queue q) h = refl

queue_numbers : (c : Collection) → has_numbers c ≡ true → list_all is_number (queue_or_none c) ≡ true
queue_numbers (collection.Bag b) h = refl
queue_numbers (collection.Queue q) h = h

bag_few : (c : Collection) → total (bag_or_none c) ≤ count_in c
bag_few (collection.Bag b) = omega arith
bag_few (collection.Queue q) = omega arith

call_number : (k : BagCall) (c : Collection) → IsFewNumbers c → IfOk (call_result k c) IsNumber
call_number call.Size c h = small_number (count_in c) h.few
call_number call.Sum c h = sum_number (bag_or_none c)
call_number call.Least c h = least_number (bag_or_none c) (bag_numbers c h.numbers)
call_number call.Most c h = most_number (bag_or_none c) (bag_numbers c h.numbers)
call_number call.Front c h = first_number (queue_or_none c) (queue_numbers c h.numbers)

-- operators
prefix_number : (p : Prefix) (v : Value) → IfOk (prefix_result p v) IsNumber
prefix_number prefix.Minus v = number_from (neg_ℤ (number_of v))
prefix_number prefix.Not v = truth_number (not (truth_of v))

quotient_number : (a b : ℤ) → IfOk (quotient a b) IsNumber
quotient_number a b =
    if_ok_branch (int_eq b (pos 0)) (Err fault.Divide) (number_or_overflow (int_div a b)) IsNumber tt (number_from (int_div a b))

rest_number : (a b : ℤ) → is_number a ≡ true → IfOk (remainder a b) IsNumber
rest_number a b h = if_ok_branch (int_eq b (pos 0)) (Err fault.Divide) (Ok (value.Number (int_rem a b))) IsNumber tt
    (remainder_number a b h)

operator_number : (o : Operator) (a b : Value) → IsNumber a → IfOk (operator_result o a b) IsNumber
operator_number operator.Or a b h = truth_number (truth_of a || truth_of b)
operator_number operator.And a b h = truth_number (truth_of a && truth_of b)
operator_number operator.Add a b h = number_from (number_of a +ℤ number_of b)
operator_number operator.Subtract a b h = number_from (number_of a -ℤ number_of b)
operator_number operator.Multiply a b h = number_from (number_of a *ℤ number_of b)
operator_number operator.Divide a b h = quotient_number (number_of a) (number_of b)
operator_number operator.Remainder a b h = rest_number (number_of a) (number_of b) h
operator_number operator.Equal a b h = truth_number (same a b)
operator_number operator.Unequal a b h = truth_number (not (same a b))
operator_number operator.Less a b h = truth_number (int_lt (number_of a) (number_of b))
operator_number operator.AtMost a b h = truth_number (not (int_lt (number_of b) (number_of a)))
operator_number operator.Greater a b h = truth_number (int_lt (number_of b) (number_of a))
operator_number operator.AtLeast a b h = truth_number (not (int_lt (number_of a) (number_of b)))

-- what an expression gives
pub meaning_number : (scope : Scope) (m : Moment) (e : Expression) → IsTrue (names_numbers e) → KnowsNumbers m →
    IfOk (meaning scope m e) IsNumber
meaning_number scope m (Literal n) small h = small
meaning_number scope m (TruthValue offset b) small h = truth_number b
meaning_number scope m (Named name) small h = named_number scope m name.number h
meaning_number scope m (Parens offset e) small h = meaning_number scope m e small h
meaning_number scope m (Prefixed o offset e) small h =
    if_ok_then (meaning scope m e) (λ v. prefix_result o v) IsNumber IsNumber (meaning_number scope m e small h) (λ v n. prefix_number o v)
meaning_number scope m (Binary o a b) small h =
    let parts = and_parts (names_numbers a) (names_numbers b) small in
    let second = meaning_number scope m b parts.1 h in
    if_ok_then (meaning scope m a)
    (λ x. cond (is_decided o x) (Ok (value.Truth (truth_of x))) (meaning scope m b >>= λ y. operator_result o x y)) IsNumber IsNumber
    (meaning_number scope m a parts.0 h)
    (λ x n. if_ok_branch (is_decided o x) (Ok (value.Truth (truth_of x))) (meaning scope m b >>= λ y. operator_result o x y) IsNumber
    (truth_number (truth_of x))
    (if_ok_then (meaning scope m b) (λ y. operator_result o x y) IsNumber IsNumber second (λ y k. operator_number o x y n)))
meaning_number scope m (Call c offset x) small h =
    call_number c (collection_of_name scope m x.number) (collection_named scope m x.number h)
meaning_number scope m (Elapsed offset) small h = number_from (pos m.context.arrivals.elapsed)
meaning_number scope m (Times offset e b) small h =
    let c = collection_of_name scope m b.number in
    let few = collection_named scope m b.number h in
    if_ok_then (meaning scope m e) (λ v. Ok (value.Number (pos (count_of (number_of v) (bag_or_none c))))) IsNumber IsNumber
    (meaning_number scope m e small h)
    (λ v n. small_number (count_of (number_of v) (bag_or_none c))
    (omega (arith, count_few (number_of v) (bag_or_none c), bag_few c, few.few)))
