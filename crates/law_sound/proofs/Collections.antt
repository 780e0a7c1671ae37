-- A collection of a state that is kept is kept after it was changed or popped.
use Rattle.std.proofs.Common.{◌≡◌, ℕ, true, nat_le, ℤ, Option, Some, None, Result, Ok, Err}
use Rattle.std.proofs.lemmas.Bool.{and_from, and_parts, leb-true, le-leb}
use Rattle.std.proofs.lemmas.List.Sums.{AllPass-from_list_all, list_all-from_AllPass}
use Rattle.dv_bag.specs.Bag.{is_number}
use Rattle.dv_bag.specs.Collections.{changed, count_in, popped}
use Rattle.dv_bag.specs.Limits.{greatest_count}
use Rattle.dv_bag.specs.Numbers.{HasNumbers}
use Rattle.dv_bag.specs.declared.collection.Collection.{Collection}
use Rattle.dv_bag.specs.declared.collection.Collection.TheVariants as collection
use Rattle.dv_bag.specs.declared.discipline.Change.{Change}
use Rattle.dv_bag.specs.declared.fault.Fault.{Fault}
use Rattle.dv_bag.specs.declared.state.Datum.TheVariants as datum
use Rattle.dv_bag.proofs.NumbersKept.{HasFew, MadeOf, changed_few, changed_numbers, popped_few, popped_numbers}
use Rattle.law_sound.specs.Kept.{has_numbers, is_kept}

-- numbers by test, and as they are
pub numbers_in : (c : Collection) → has_numbers c ≡ true → HasNumbers c
numbers_in (collection.Bag b) h = AllPass-from_list_all (λ (p : ℤ × ℕ). is_number p.0) b h
numbers_in (collection.Queue q) h = AllPass-from_list_all is_number q h

test_of_numbers : (c : Collection) → HasNumbers c → has_numbers c ≡ true
test_of_numbers (collection.Bag b) h = list_all-from_AllPass (λ (p : ℤ × ℕ). is_number p.0) b h
test_of_numbers (collection.Queue q) h = list_all-from_AllPass is_number q h

abbrev pub IsKept : Collection → Type 0
IsKept c = is_kept (datum.Held c) ≡ true

both_kept : (made : Option (Result Collection Fault)) → MadeOf HasNumbers made → MadeOf HasFew made → MadeOf IsKept made
both_kept None numbers few = tt
both_kept (Some (Err f)) numbers few = tt
both_kept (Some (Ok c)) numbers few =
    and_from (has_numbers c) (nat_le (count_in c) greatest_count) (test_of_numbers c numbers) (le-leb (count_in c) greatest_count few)

module _ (held : Collection) (kept : IsKept held) where
  parts : (has_numbers held ≡ true) × (nat_le (count_in held) greatest_count ≡ true)
  parts = and_parts (has_numbers held) (nat_le (count_in held) greatest_count) kept

  few : HasFew held
  few = leb-true (count_in held) greatest_count parts.1

  pub changed_kept : (c : Change) (most : ℕ) (n : ℤ) → is_number n ≡ true → MadeOf IsKept (changed c most n held)
  changed_kept c most n number =
      both_kept (changed c most n held) (changed_numbers c most n held number (numbers_in held parts.0)) (changed_few c most n held few)

  pub popped_kept : MadeOf IsKept (popped held)
  popped_kept = both_kept (popped held) (popped_numbers held (numbers_in held parts.0)) (popped_few held few)
