-- Collections: how many values a loop walks, and that what changes one keeps its discipline and its capacity.
use Rattle.std.proofs.Common.{◌≡◌, ℕ, ◌+◌, ◌≤◌, ◌<◌, ℤ, Bool, true, false, cond, nat_le, List, [], ◌∷◌, length, length-append, replicate}
use Rattle.std.proofs.Common.{Option, Some, None, Result, Ok, Err, refl, ap, ◌∙◌, arith}
use Rattle.std.specs.Prelude.{◌||◌}
use Rattle.std.proofs.lemmas.Bool.Decides.{nat_tests}
use Rattle.std.proofs.lemmas.List.{length-replicate}
use Rattle.dv_bag.specs.Bag.{Counts, total, values_of}
use Rattle.dv_bag.specs.Collections.{changed, count_in, discipline_of, discipline_of_change, is_full, popped, same_discipline, singles}
use Rattle.dv_bag.specs.Collections.{values_in}
use Rattle.dv_bag.specs.Limits.{greatest_count}
use Rattle.dv_bag.specs.declared.collection.Collection.{Collection}
use Rattle.dv_bag.specs.declared.collection.Collection.TheVariants as collection
use Rattle.dv_bag.specs.declared.discipline.Change.{Change}
use Rattle.dv_bag.specs.declared.discipline.Change.TheVariants as change
use Rattle.dv_bag.specs.declared.discipline.Discipline.{Discipline}
use Rattle.dv_bag.specs.declared.discipline.Discipline.TheVariants as discipline
use Rattle.dv_bag.specs.declared.fault.Fault.{Fault}
use Rattle.dv_bag.specs.declared.fault.Fault.TheVariants as fault
use Rattle.dv_bag.proofs.Monoid.{total_with, total_without}

-- the values of a list, each with one copy, are those of the list
pub values_of_singles : (q : List ℤ) → values_of (singles q) ≡ q
values_of_singles [] = refl
values_of_singles (n ∷ q) = ap (λ ns. n ∷ ns) (values_of_singles q)

-- a loop has a turn for each value of a bag, and of a collection
values_length : (b : Counts) → length (values_of b) ≡ total b
values_length [] = refl
values_length (p ∷ ps) =
    length-append (replicate p.1 p.0) (values_of ps)
    ∙ ap (λ n. n + length (values_of ps)) (length-replicate p.1 p.0)
    ∙ ap (λ n. p.1 + n) (values_length ps)

pub values_counted : (c : Collection) → length (values_in c) ≡ count_in c
values_counted (collection.Bag b) = values_length b
values_counted (collection.Queue q) = refl

-- the test of two disciplines tells whether they are one
pub disciplines_same : (a b : Discipline) → same_discipline a b ≡ true → a ≡ b
disciplines_same discipline.Bag discipline.Bag is = refl
disciplines_same discipline.Bag discipline.Queue is = absurd (cc)
disciplines_same discipline.Queue discipline.Bag is = absurd (cc)
disciplines_same discipline.Queue discipline.Queue is = refl

-- a collection of the discipline of bags is one
pub bag_itself : (c : Collection) → discipline_of c ≡ discipline.Bag → (b : Counts) × (c ≡ collection.Bag b)
bag_itself (collection.Bag b) is = (b, refl)
bag_itself (collection.Queue q) is = absurd (cc)

-- a collection of this discipline within its capacity, or a fault
abbrev pub StaysWithin : Discipline → ℕ → Option (Result Collection Fault) → Type 0
StaysWithin d capacity None = ⊥
StaysWithin d capacity (Some (Err f)) = Unit {0}
StaysWithin d capacity (Some (Ok c)) = (discipline_of c ≡ d) × (count_in c ≤ capacity)

-- one that is not full is below its capacity
below_capacity : (capacity count : ℕ) → is_full capacity count ≡ false → count < capacity
below_capacity capacity count e = by (nat_le capacity count) refl e
  where
    by : (t : Bool) → nat_le capacity count ≡ t → (t || nat_le greatest_count count) ≡ false → count < capacity
    by true is e = absurd (cc)
    by false is e = grind (arith, nat_tests, is)

room_stays : (d : Discipline) (capacity : ℕ) (b : Bool) (c : Collection)
    → (b ≡ false → (discipline_of c ≡ d) × (count_in c ≤ capacity)) → StaysWithin d capacity (Some (cond b (Err fault.Full) (Ok c)))
room_stays d capacity true c free = tt
room_stays d capacity false c free = free refl

-- a change of a collection of its discipline
pub changed_stays : (c : Change) (capacity : ℕ) (n : ℤ) (held : Collection) → discipline_of held ≡ discipline_of_change c
    → count_in held ≤ capacity → StaysWithin (discipline_of_change c) capacity (changed c capacity n held)
changed_stays change.Add capacity n (collection.Bag b) is few = room_stays discipline.Bag capacity (is_full capacity (total b)) _
    (λ free.
    let more = (total_with n 1 b).1 in
    let room = below_capacity capacity (total b) free in
    (refl, omega (arith, more, room)))
changed_stays change.Drop capacity n (collection.Bag b) is few = let less = total_without n b in (refl, omega (arith, less, few))
changed_stays change.Push capacity n (collection.Bag b) is few = absurd (cc)
changed_stays change.Add capacity n (collection.Queue q) is few = absurd (cc)
changed_stays change.Drop capacity n (collection.Queue q) is few = absurd (cc)
changed_stays change.Push capacity n (collection.Queue q) is few = room_stays discipline.Queue capacity (is_full capacity (length q)) _
    (λ free.
    let more = length-append q (n ∷ []) in
    let room = below_capacity capacity (length q) free in
    (refl, omega (arith, more, room)))

-- a queue that loses its first value
pub popped_stays : (capacity : ℕ) (held : Collection) → discipline_of held ≡ discipline.Queue → count_in held ≤ capacity
    → StaysWithin discipline.Queue capacity (popped held)
popped_stays capacity (collection.Bag b) is few = absurd (cc)
popped_stays capacity (collection.Queue []) is few = tt
popped_stays capacity (collection.Queue (n ∷ q)) is few = (refl, omega (arith, few))
