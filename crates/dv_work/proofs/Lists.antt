-- What is so of the first items of a list.
use Rattle.std.proofs.Common.{◌≡◌, ℕ, ◌+◌, ◌<◌, Bool, true, false, nat_eq, List, Some, length, slice_index_or, refl, sym, subst, arith}
use Rattle.std.specs.List.{All, slice_get}
use Rattle.std.proofs.Math.ListN.{set}
use Rattle.std.proofs.lemmas.Bool.{eqb-false, eqb-true}
use Rattle.std.proofs.lemmas.Bool.Decides.{nat_tests}
use Rattle.std.proofs.lemmas.Grind.{get_or-set_at}
use Rattle.std.proofs.lemmas.List.{get_or-set_other}
use Rattle.std.proofs.lemmas.Option.{get_or_from_slice_get, slice_get_within}

-- it is so of one item more, after a write of the next one
pub first_more : {X : Type 0} (P : X → Type 0) (xs : List X) (i : ℕ) (y : X) → i < length xs
    → ((k : ℕ) (d : X) → k < i → P (slice_index_or xs k d)) → P y
    → (k : ℕ) (d : X) → k < i + 1 → P (slice_index_or (set xs i y) k d)
first_more P xs i y within before own k d lt = by_index (nat_eq k i) refl
  where
    by_index : (t : Bool) → nat_eq k i ≡ t → P (slice_index_or (set xs i y) k d)
    by_index true same = subst P (sym (get_or-set_at xs i k y d (eqb-true k i same) within)) own
    by_index false other =
        let earlier : k < i = grind (arith, nat_tests) in
        subst P (sym (get_or-set_other xs i k y d (eqb-false k i other))) (before k d earlier)

-- what is so of all items is so of the one at an index
pub at_index : {X : Type 0} (P : X → Type 0) (xs : List X) (p : ℕ) (x : X) → All P xs → slice_get xs p ≡ Some x → P x
at_index P xs p x all at = subst P (get_or_from_slice_get xs p x x at) (all p x (slice_get_within xs p x at))
