-- Counts of bags.
use Rattle.std.proofs.Common.{ℕ, zero, suc, List, ◌≤◌, [], ◌∷◌, arith}
use Rattle.dv_bag.specs.Bag.{Counts, bag_at, total, total_of_all}
use Rattle.dv_bag.specs.Arrivals.{AreFew}

-- a bag has at most as many values as all bags together
total-at : (bags : List Counts) (port : ℕ) → total (bag_at bags port) ≤ total_of_all bags
total-at [] port = omega arith
total-at (b ∷ bags) zero = omega arith
total-at (b ∷ bags) (suc port) = let rest = total-at bags port in omega (arith, rest)

-- bags with few values together have few values each
pub are_few-together : (bags : List Counts) → total_of_all bags ≤ 4096 → AreFew bags
are_few-together bags few port = let one = total-at bags port in omega (arith, few, one)
