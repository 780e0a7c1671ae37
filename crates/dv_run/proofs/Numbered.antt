-- Numbers of the language among inputs.
use Rattle.std.proofs.Common.{◌≡◌, ℕ, zero, suc, ◌+◌, ◌<◌, List, [], ◌∷◌, Some, length, take, get_or, IsTrue, refl, subst, arith}
use Rattle.std.specs.List.{AllByRecursion, slice_get}
use Rattle.dv_bag.specs.Bag.{is_number}
use Rattle.dv_bag.specs.declared.inputs.Input.{Input}
use Rattle.dv_local.specs.declared.share.Share.{Share}
use Rattle.law_sound.specs.Jobs.{AllInputNumbers}

one_more : (xs : List Input) (i : ℕ) (d : Input) → i < length xs → AllInputNumbers (take i xs)
    → IsTrue (is_number (get_or xs i d).value) → AllInputNumbers (take (suc i) xs)
one_more [] i d lt h n = absurd (omega arith)
one_more (x ∷ xs) zero d lt h n = (n, tt)
one_more (x ∷ xs) (suc i) d lt h n = (h.0, one_more xs i d (omega arith) h.1 n)

-- one input more
pub one_more_number : (xs : List Input) (i : ℕ) (d : Input) → i < length xs → AllInputNumbers (take i xs)
    → IsTrue (is_number (get_or xs i d).value) → AllInputNumbers (take (i + 1) xs)
one_more_number xs i d lt h n =
    let next : suc i ≡ i + 1 = omega arith in
    subst (λ (k : ℕ). AllInputNumbers (take k xs)) next (one_more xs i d lt h n)

taken : {X : Type 0} (Q : X → Type 0) (xs : List X) (i : ℕ) (d : X) → i < length xs → AllByRecursion Q (take i xs)
    → Q (get_or xs i d) → AllByRecursion Q (take (suc i) xs)
taken Q [] i d lt h q = absurd (omega arith)
taken Q (x ∷ xs) zero d lt h q = (q, tt)
taken Q (x ∷ xs) (suc i) d lt h q = (h.0, taken Q xs i d (omega arith) h.1 q)

-- one item more
one_more_taken : {X : Type 0} (Q : X → Type 0) (xs : List X) (i : ℕ) (d : X) → i < length xs → AllByRecursion Q (take i xs)
    → Q (get_or xs i d) → AllByRecursion Q (take (i + 1) xs)
one_more_taken Q xs i d lt h q =
    let next : suc i ≡ i + 1 = omega arith in
    subst (λ (k : ℕ). AllByRecursion Q (take k xs)) next (taken Q xs i d lt h q)

-- one share more
pub one_more_share : {S : Type 0} (xs : List (Share S)) (i : ℕ) (d : Share S) → i < length xs
    → AllByRecursion (λ (s : Share S). AllInputNumbers s.inputs) (take i xs) → AllInputNumbers (get_or xs i d).inputs
    → AllByRecursion (λ (s : Share S). AllInputNumbers s.inputs) (take (i + 1) xs)
one_more_share {S} xs i d lt h n = one_more_taken (λ (s : Share S). AllInputNumbers s.inputs) xs i d lt h n

-- what holds of all holds of the one at an index
pub holds_at : {X : Type 0} (Q : X → Type 0) (xs : List X) (p : ℕ) (x : X) → AllByRecursion Q xs → slice_get xs p ≡ Some x → Q x
holds_at Q [] p x h e = absurd (cc)
holds_at Q (y ∷ xs) zero x h e = let same : y ≡ x = cc in subst Q same h.0
holds_at Q (y ∷ xs) (suc p) x h e = holds_at Q xs p x h.1 e

-- and what holds at each index holds of all
pub holds_of_all : {X : Type 0} (Q : X → Type 0) (xs : List X) → ((p : ℕ) (x : X) → slice_get xs p ≡ Some x → Q x) → AllByRecursion Q xs
holds_of_all Q [] h = tt
holds_of_all Q (x ∷ xs) h = (h 0 x refl, holds_of_all Q xs (λ p y e. h (suc p) y e))
