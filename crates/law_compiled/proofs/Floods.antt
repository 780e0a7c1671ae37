-- Bags that flood no port: as their sizes are tested, and as their totals are.
use Rattle.std.proofs.Common.{◌≡◌, zero, suc, ◌≤◌, true, nat_le, List, [], ◌∷◌, IsTrue, refl, arith}
use Rattle.std.proofs.lemmas.Bool.{and_parts, le-leb, leb-true}
use Rattle.dv_bag.specs.Arrivals.{AreFew, nothing_arrived}
use Rattle.dv_bag.specs.Bag.{Counts, size, total}
use Rattle.dv_bag.specs.Limits.{greatest_count}
use Rattle.dv_devs.specs.Behaviour.{are_few}
use Rattle.law_accepted.proofs.Fitting.{and_true}

few_by_size : (b : Counts) → nat_le (size b) greatest_count ≡ true → total b ≤ greatest_count
few_by_size b few = let so = leb-true (size b) greatest_count few in omega (arith, so)

few_by_total : (b : Counts) → total b ≤ greatest_count → nat_le (size b) greatest_count ≡ true
few_by_total b few = le-leb (size b) greatest_count (omega (arith, few))

-- bags that pass the test are few
pub few_passed : (bags : List Counts) → IsTrue (are_few bags) → AreFew bags
few_passed [] few port = omega arith
few_passed (b ∷ bags) few zero = few_by_size b (and_parts _ (are_few bags) few).0
few_passed (b ∷ bags) few (suc port) = few_passed bags (and_parts _ (are_few bags) few).1 port

-- few bags pass the test
pub few_pass : (bags : List Counts) → AreFew bags → IsTrue (are_few bags)
few_pass [] few = refl
few_pass (b ∷ bags) few =
    and_true (nat_le (size b) greatest_count) (are_few bags) (few_by_total b (few 0)) (few_pass bags (λ port. few (suc port)))

pub nothing_is_few : AreFew nothing_arrived.received
nothing_is_few = few_passed [] refl
