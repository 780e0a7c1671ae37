-- Inputs stand in the order of their times.
use Rattle.std.proofs.Common.{◌≡◌, ℕ, zero, suc, ◌<◌, ◌≤◌, true, false, List, [], ◌∷◌, length, get_or, arith}
use Rattle.std.specs.List.Sorted.{IsPartitionedBy}
use Rattle.std.proofs.lemmas.Bool.Decides.{nat_tests}
use Rattle.std.proofs.lemmas.List.Sums.{prefix_len_is}
use Rattle.dv_time.specs.Time.{IsOfRun, is_before}
use Rattle.dv_time.specs.declared.time.Time.{Time}
use Rattle.dv_bag.specs.Inputs.{IsByTime, IsFrom, inputs_before, is_passed, start_of}
use Rattle.dv_bag.specs.declared.inputs.Input.{Input}
use Rattle.dv_bag.proofs.InputLists.{not_itself, not_sooner}
use Rattle.dv_local.specs.Shares.{AreOfRun}

above : (low : Time) (xs : List Input) → IsFrom low xs → (k : ℕ) (d : Input) → k < length xs → is_before (get_or xs k d).time low ≡ false
above low [] h k d lt = absurd (omega (arith, lt))
above low (x ∷ xs) h zero d lt = h.0
above low (x ∷ xs) h (suc k) d lt = not_sooner low x.time (get_or xs k d).time h.0 (above x.time xs h.2 k d (omega (arith, lt)))

times_rise : (low : Time) (xs : List Input) → IsFrom low xs → (i j : ℕ) (d : Input) → i ≤ j → j < length xs
    → is_before (get_or xs j d).time (get_or xs i d).time ≡ false
times_rise low [] h i j d le lt = absurd (omega (arith, lt))
times_rise low (x ∷ xs) h zero zero d le lt = not_itself x.time
times_rise low (x ∷ xs) h zero (suc j) d le lt = above x.time xs h.2 j d (omega (arith, lt))
times_rise low (x ∷ xs) h (suc i) zero d le lt = absurd (omega (arith, le))
times_rise low (x ∷ xs) h (suc i) (suc j) d le lt = times_rise x.time xs h.2 i j d (omega (arith, le)) (omega (arith, lt))

sooner_too : (a b t : Time) → is_before b a ≡ false → is_before b t ≡ true → is_before a t ≡ true
sooner_too a b t le e = grind (arith, nat_tests)

-- those before a time stand in front
pub parted : (xs : List Input) (t : Time) → IsByTime xs → IsPartitionedBy (λ (i : Input). is_before i.time t) xs
parted xs t h i j d le lt e = sooner_too (get_or xs i d).time (get_or xs j d).time t (times_rise (start_of 0) xs h i j d le lt) e

-- an input of the run is passed by where it is before the time
passes : (limit : ℕ) (t : Time) (i : Input) → is_before i.time t ≡ true → is_passed limit t i ≡ true
passes limit t i e = grind (arith, nat_tests)

stays : (limit : ℕ) (t : Time) (i : Input) → IsOfRun limit i.time → is_before i.time t ≡ false → is_passed limit t i ≡ false
stays limit t i run e = grind (arith, nat_tests)

-- the index of a time is that at which those before it end
pub before_are : (limit : ℕ) (t : Time) (p : ℕ) (xs : List Input) (d : Input) → AreOfRun limit xs → p ≤ length xs
    → ((k : ℕ) → k < p → is_before (get_or xs k d).time t ≡ true)
    → (p < length xs → is_before (get_or xs p d).time t ≡ false) → inputs_before limit xs t ≡ p
before_are limit t p xs d run le h g =
    prefix_len_is (is_passed limit t) xs p d le (λ k lt. passes limit t (get_or xs k d) (h k lt))
    (λ lt. stays limit t (get_or xs p d) (run p d lt) (g lt))
