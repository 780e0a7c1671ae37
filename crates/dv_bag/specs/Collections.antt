-- Collections of a state: bags and queues, and what changes them.
use Rattle.std.specs.Prelude.{ℕ, ℤ, Bool, true, false, ◌&&◌, ◌||◌, List, [], ◌∷◌, ◌++◌, Option, Some, None, Result, Ok, Err}
use Rattle.std.specs.Prelude.{if◌then◌else◌, length, map, drop, nat_le}
use Rattle.dv_bag.specs.Bag.{Counts, total, values_of, with_copies, without_one}
use Rattle.dv_bag.specs.Limits.{greatest_count}
use Rattle.dv_bag.specs.declared.collection.Collection.{Collection}
use Rattle.dv_bag.specs.declared.collection.Collection.TheVariants as collection
use Rattle.dv_bag.specs.declared.discipline.Change.{Change}
use Rattle.dv_bag.specs.declared.discipline.Change.TheVariants as change
use Rattle.dv_bag.specs.declared.discipline.Discipline.{Discipline}
use Rattle.dv_bag.specs.declared.discipline.Discipline.TheVariants as discipline
use Rattle.dv_bag.specs.declared.fault.Fault.{Fault}
use Rattle.dv_bag.specs.declared.fault.Fault.TheVariants as fault

abbrev pub discipline_of : Collection → Discipline
discipline_of (collection.Bag b) = discipline.Bag
discipline_of (collection.Queue q) = discipline.Queue

abbrev pub same_discipline : Discipline → Discipline → Bool
same_discipline discipline.Bag discipline.Bag = true
same_discipline discipline.Bag discipline.Queue = false
same_discipline discipline.Queue discipline.Bag = false
same_discipline discipline.Queue discipline.Queue = true

-- a collection without values
abbrev pub empty_of : Discipline → Collection
empty_of discipline.Bag = collection.Bag []
empty_of discipline.Queue = collection.Queue []

-- its values, in the order of a loop over it
abbrev pub values_in : Collection → List ℤ
values_in (collection.Bag b) = values_of b
values_in (collection.Queue q) = q

-- how many values it has, each copy counted
abbrev pub count_in : Collection → ℕ
count_in (collection.Bag b) = total b
count_in (collection.Queue q) = length q

-- each value with one copy, as in a loop over a list
abbrev pub singles : List ℤ → Counts
singles q = map (λ v. (v, 1)) q

-- the discipline of the collections that a change applies to
abbrev pub discipline_of_change : Change → Discipline
discipline_of_change change.Add = discipline.Bag
discipline_of_change change.Drop = discipline.Bag
discipline_of_change change.Push = discipline.Queue

-- whether a change adds a value
abbrev pub makes_more : Change → Bool
makes_more change.Add = true
makes_more change.Drop = false
makes_more change.Push = true

-- a collection after a change with a value; a change for the other discipline has no effect
abbrev pub edited : Change → ℤ → Collection → Collection
edited change.Add n (collection.Bag b) = collection.Bag (with_copies n 1 b)
edited change.Drop n (collection.Bag b) = collection.Bag (without_one n b)
edited change.Push n (collection.Queue q) = collection.Queue (q ++ n ∷ [])
edited c n other = other

-- whether there is no room for one more value
abbrev pub is_full : ℕ → ℕ → Bool
is_full capacity count = nat_le capacity count || nat_le greatest_count count

-- a collection of a capacity after a change with a value, or a fault; None for a change of the other discipline
abbrev pub changed : Change → ℕ → ℤ → Collection → Option (Result Collection Fault)
changed c capacity n held =
    if same_discipline (discipline_of_change c) (discipline_of held)
    then Some (if makes_more c && is_full capacity (count_in held) then Err fault.Full else Ok (edited c n held))
    else None

-- without the first value of a queue
abbrev pub without_first : Collection → Collection
without_first (collection.Bag b) = collection.Bag b
without_first (collection.Queue q) = collection.Queue (drop 1 q)

-- a queue without its first value, or a fault if it has none; None for a bag
abbrev pub popped : Collection → Option (Result Collection Fault)
popped (collection.Bag b) = None
popped (collection.Queue []) = Some (Err fault.Empty)
popped (collection.Queue (n ∷ q)) = Some (Ok (collection.Queue q))

-- the first value of a queue, or a fault if it has none; None for a bag
abbrev pub first_in : Collection → Option (Result ℤ Fault)
first_in (collection.Bag b) = None
first_in (collection.Queue []) = Some (Err fault.Empty)
first_in (collection.Queue (n ∷ q)) = Some (Ok n)
