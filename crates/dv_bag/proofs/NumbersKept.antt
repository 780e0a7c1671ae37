-- What changes a collection of few numbers of the language with such a number, or takes its first value, leaves one of few such
-- numbers.
use Rattle.std.proofs.Common.{◌≡◌, ℕ, ◌+◌, ◌-◌, ◌<◌, ◌≤◌, ℤ, Bool, true, false, cond, nat_eq, nat_le, [], ◌∷◌, Option}
use Rattle.std.proofs.Common.{Some, None, Result, Ok, Err, IsTrue, IfOk, IfSome, refl, arith}
use Rattle.std.specs.Prelude.{◌&&◌, ◌||◌}
use Rattle.std.specs.List.{AllByRecursion}
use Rattle.std.specs.Ordering.{int_cmp, match_ordering}
use Rattle.std.specs.declared.cmp.Ordering.{Ordering}
use Rattle.std.specs.declared.cmp.Ordering.TheVariants as order
use Rattle.std.proofs.lemmas.Bool.Decides.{nat_tests}
use Rattle.std.proofs.lemmas.List.Elements.{All-from_recursion, All-push, All-tail, recursion_from_All}
use Rattle.dv_bag.specs.Bag.{Counts, capped, is_number, with_copies, with_some, without_one}
use Rattle.dv_bag.specs.Collections.{changed, count_in, discipline_of, discipline_of_change, edited, is_full, makes_more, popped}
use Rattle.dv_bag.specs.Collections.{same_discipline, without_first}
use Rattle.dv_bag.specs.Limits.{greatest_count}
use Rattle.dv_bag.specs.Numbers.{HasNumbers, IsBagOfNumbers}
use Rattle.dv_bag.specs.declared.collection.Collection.{Collection}
use Rattle.dv_bag.specs.declared.collection.Collection.TheVariants as collection
use Rattle.dv_bag.specs.declared.discipline.Change.{Change}
use Rattle.dv_bag.specs.declared.discipline.Change.TheVariants as change
use Rattle.dv_bag.specs.declared.fault.Fault.{Fault}
use Rattle.dv_bag.specs.declared.fault.Fault.TheVariants as fault
use Rattle.dv_bag.proofs.HeldOnes.{edited_few, without_first_few}

-- ---- Bags

abbrev IsNumber : ℤ × ℕ → Type 0
IsNumber p = IsTrue (is_number p.0)

some_more : (v : ℤ) (n : ℕ) (b : Counts) → IsTrue (is_number v) → AllByRecursion IsNumber b → AllByRecursion IsNumber (with_some v n b)
some_more v n [] number all = (number, tt)
some_more v n (p ∷ ps) number all = by (int_cmp v p.0) (some_more v n ps number all.1)
  where
    by : (o : Ordering) → AllByRecursion IsNumber (with_some v n ps)
        → AllByRecursion IsNumber (match_ordering o ((v, capped n) ∷ p ∷ ps) ((p.0, capped (p.1 + n)) ∷ ps) (p ∷ with_some v n ps))
    by order.Less rest = (number, all)
    by order.Equal rest = (all.0, all.1)
    by order.Greater rest = (all.0, rest)

one_less : (v : ℤ) (b : Counts) → AllByRecursion IsNumber b → AllByRecursion IsNumber (without_one v b)
one_less v [] all = tt
one_less v (p ∷ ps) all = by (int_cmp v p.0) (nat_eq p.1 1) (one_less v ps all.1)
  where
    by : (o : Ordering) (last : Bool) → AllByRecursion IsNumber (without_one v ps)
        → AllByRecursion IsNumber (match_ordering o (p ∷ ps) (cond last ps ((p.0, p.1 - 1) ∷ ps)) (p ∷ without_one v ps))
    by order.Less last rest = (all.0, all.1)
    by order.Equal true rest = all.1
    by order.Equal false rest = (all.0, all.1)
    by order.Greater last rest = (all.0, rest)

one_more_numbers : (v : ℤ) (b : Counts) → IsTrue (is_number v) → IsBagOfNumbers b → IsBagOfNumbers (with_copies v 1 b)
one_more_numbers v b number all =
    All-from_recursion IsNumber (with_some v 1 b) (some_more v 1 b number (recursion_from_All IsNumber b all))

one_less_numbers : (v : ℤ) (b : Counts) → IsBagOfNumbers b → IsBagOfNumbers (without_one v b)
one_less_numbers v b all = All-from_recursion IsNumber (without_one v b) (one_less v b (recursion_from_All IsNumber b all))

-- ---- What is made of a collection

-- what holds of a collection that is made, where it is no fault
abbrev pub MadeOf : (Collection → Type 0) → Option (Result Collection Fault) → Type 0
MadeOf P made = IfSome made (λ (r : Result Collection Fault). IfOk r P)

made_if : (P : Collection → Type 0) (is more full : Bool) (c : Collection) → ((more ≡ true → full ≡ false) → P c)
    → MadeOf P (cond is (Some (cond (more && full) (Err fault.Full) (Ok c))) None)
made_if P false more full c holds = tt
made_if P true true true c holds = tt
made_if P true true false c holds = holds (λ e. refl)
made_if P true false full c holds = holds (λ e. absurd (cc))

-- of a change what holds after the edit, where there is room for it
changed_made : (P : Collection → Type 0) (c : Change) (capacity : ℕ) (n : ℤ) (held : Collection)
    → ((makes_more c ≡ true → is_full capacity (count_in held) ≡ false) → P (edited c n held)) → MadeOf P (changed c capacity n held)
changed_made P c capacity n held holds =
    made_if P (same_discipline (discipline_of_change c) (discipline_of held)) (makes_more c) (is_full capacity (count_in held))
    (edited c n held) holds

popped_made : (P : Collection → Type 0) (held : Collection) → P (without_first held) → MadeOf P (popped held)
popped_made P (collection.Bag b) holds = tt
popped_made P (collection.Queue []) holds = tt
popped_made P (collection.Queue (n ∷ q)) holds = holds

-- ---- Numbers

edited_numbers : (c : Change) (n : ℤ) (held : Collection) → IsTrue (is_number n) → HasNumbers held → HasNumbers (edited c n held)
edited_numbers change.Add n (collection.Bag b) number numbers = one_more_numbers n b number numbers
edited_numbers change.Drop n (collection.Bag b) number numbers = one_less_numbers n b numbers
edited_numbers change.Push n (collection.Bag b) number numbers = numbers
edited_numbers change.Add n (collection.Queue q) number numbers = numbers
edited_numbers change.Drop n (collection.Queue q) number numbers = numbers
edited_numbers change.Push n (collection.Queue q) number numbers = All-push (λ (v : ℤ). IsTrue (is_number v)) q n numbers number

without_first_numbers : (held : Collection) → HasNumbers held → HasNumbers (without_first held)
without_first_numbers (collection.Bag b) numbers = numbers
without_first_numbers (collection.Queue []) numbers = numbers
without_first_numbers (collection.Queue (n ∷ q)) numbers = All-tail (λ (v : ℤ). IsTrue (is_number v)) n q numbers

pub changed_numbers : (c : Change) (capacity : ℕ) (n : ℤ) (held : Collection) → IsTrue (is_number n) → HasNumbers held
    → MadeOf HasNumbers (changed c capacity n held)
changed_numbers c capacity n held number numbers =
    changed_made HasNumbers c capacity n held (λ room. edited_numbers c n held number numbers)

pub popped_numbers : (held : Collection) → HasNumbers held → MadeOf HasNumbers (popped held)
popped_numbers held numbers = popped_made HasNumbers held (without_first_numbers held numbers)

-- ---- Few values

-- no more values than any collection has
abbrev pub HasFew : Collection → Type 0
HasFew c = count_in c ≤ greatest_count

below_greatest : (capacity count : ℕ) → is_full capacity count ≡ false → count < greatest_count
below_greatest capacity count e = by (nat_le capacity count) e
  where
    by : (t : Bool) → (t || nat_le greatest_count count) ≡ false → count < greatest_count
    by true e = absurd (cc)
    by false e = grind (arith, nat_tests)

pub changed_few : (c : Change) (capacity : ℕ) (n : ℤ) (held : Collection) → HasFew held → MadeOf HasFew (changed c capacity n held)
changed_few c capacity n held few =
    changed_made HasFew c capacity n held (λ room.
    edited_few greatest_count c n held few (λ more. below_greatest capacity (count_in held) (room more)))

pub popped_few : (held : Collection) → HasFew held → MadeOf HasFew (popped held)
popped_few held few = popped_made HasFew held (without_first_few greatest_count held few)
