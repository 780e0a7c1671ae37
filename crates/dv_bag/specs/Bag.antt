-- Bags: finite maps from whole numbers to counts above 0, as their pairs in ascending order.
-- A count above 2^64 - 1 is kept as that number.
use Rattle.std.specs.Prelude.{ℕ, zero, suc, ◌+◌, ◌-◌, ◌^◌, ◌<◌, min, nat_eq, nat_lt, Bool, if◌then◌else◌, List, [], ◌∷◌, ◌++◌}
use Rattle.std.specs.Prelude.{replicate, slice_index_or, ℤ, pos, negsuc, ◌+ℤ◌, ◌*ℤ◌, ◌<ℤ◌, Option, Some, None, Result, Ok, Err}
use Rattle.std.specs.Ordering.{int_cmp, match_ordering}
use Rattle.dv_bag.specs.declared.fault.Fault.{Fault}
use Rattle.dv_bag.specs.declared.fault.Fault.TheVariants.{Overflow}

abbrev pub Counts : Type 0
Counts = List (ℤ × ℕ)

-- a count, at most the greatest one that is kept
abbrev pub capped : ℕ → ℕ
capped n = min n (2 ^ 64 - 1)

-- every value is above the one before, and every count is above 0 and kept
abbrev pub IsAbove : ℤ → Counts → Type 0
IsAbove low [] = Unit {0}
IsAbove low (p ∷ ps) = (low <ℤ p.0) × (0 < p.1) × (p.1 < 2 ^ 64) × IsAbove p.0 ps

abbrev pub IsBag : Counts → Type 0
IsBag [] = Unit {0}
IsBag (p ∷ ps) = (0 < p.1) × (p.1 < 2 ^ 64) × IsAbove p.0 ps

-- how often a value is in the bag
abbrev pub count_of : ℤ → Counts → ℕ
count_of v [] = 0
count_of v (p ∷ ps) = match_ordering (int_cmp v p.0) 0 p.1 (count_of v ps)

-- how many values of the bag are below a value: its index in the ascending walk
abbrev pub index_of : ℤ → Counts → ℕ
index_of v [] = 0
index_of v (p ∷ ps) = match_ordering (int_cmp v p.0) 0 0 (suc (index_of v ps))

-- with more copies of a value, at least one
abbrev pub with_some : ℤ → ℕ → Counts → Counts
with_some v n [] = (v, capped n) ∷ []
with_some v n (p ∷ ps) = match_ordering (int_cmp v p.0) ((v, capped n) ∷ p ∷ ps) ((p.0, capped (p.1 + n)) ∷ ps) (p ∷ with_some v n ps)

-- with more copies of a value; zero copies leave the bag as it is
abbrev pub with_copies : ℤ → ℕ → Counts → Counts
with_copies v zero b = b
with_copies v (suc n) b = with_some v (suc n) b

-- without one copy, if there is one
abbrev pub without_one : ℤ → Counts → Counts
without_one v [] = []
without_one v (p ∷ ps) = match_ordering (int_cmp v p.0) (p ∷ ps) (if nat_eq p.1 1 then ps else (p.0, p.1 - 1) ∷ ps) (p ∷ without_one v ps)

-- both bags together
abbrev pub union : Counts → Counts → Counts
union a [] = a
union a (p ∷ ps) = union (with_copies p.0 p.1 a) ps

-- the number of values, each copy counted
abbrev pub total : Counts → ℕ
total [] = 0
total (p ∷ ps) = p.1 + total ps

abbrev pub size : Counts → ℕ
size b = capped (total b)

-- the sum of the values, each copy added
abbrev pub sum_of : Counts → ℤ
sum_of [] = pos 0
sum_of (p ∷ ps) = (pos p.1 *ℤ p.0) +ℤ sum_of ps

-- the numbers of the language
abbrev pub is_number : ℤ → Bool
is_number (pos n) = nat_lt n (2 ^ 63)
is_number (negsuc n) = nat_lt n (2 ^ 63)

-- the exact sum, where it is a number
abbrev pub sum_or_overflow : Counts → Result ℤ Fault
sum_or_overflow b = if is_number (sum_of b) then Ok (sum_of b) else Err Overflow

abbrev pub least : Counts → Option ℤ
least [] = None
least (p ∷ ps) = Some p.0

abbrev pub most : Counts → Option ℤ
most [] = None
most (p ∷ []) = Some p.0
most (p ∷ q ∷ ps) = most (q ∷ ps)

-- the values in ascending order, each copy once
abbrev pub values_of : Counts → List ℤ
values_of [] = []
values_of (p ∷ ps) = replicate p.1 p.0 ++ values_of ps

-- the bag of a port; past the last port there are no values
abbrev pub bag_at : List Counts → ℕ → Counts
bag_at bags port = slice_index_or bags port []

-- the number of values in all bags, each copy counted
abbrev pub total_of_all : List Counts → ℕ
total_of_all [] = 0
total_of_all (b ∷ bs) = total b + total_of_all bs

abbrev pub size_of_all : List Counts → ℕ
size_of_all bags = capped (total_of_all bags)
