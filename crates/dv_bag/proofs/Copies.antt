-- How often a value is in a bag of few values.
use Rattle.std.proofs.Common.{◌≡◌, ℕ, ◌+◌, ◌^◌, ◌<◌, ◌≤◌, [], ◌∷◌, ℤ, arith}
use Rattle.std.specs.Ordering.{int_cmp, match_ordering}
use Rattle.std.specs.declared.cmp.Ordering.{Ordering}
use Rattle.std.specs.declared.cmp.Ordering.TheVariants.{Less, Equal, Greater}
use Rattle.dv_bag.specs.Bag.{Counts, count_of, total}

-- a value is in a bag at most as often as the bag has values
count_within : (v : ℤ) (b : Counts) → count_of v b ≤ total b
count_within v [] = omega arith
count_within v (p ∷ ps) = step (int_cmp v p.0) (count_within v ps)
  where
    step : (o : Ordering) → count_of v ps ≤ total ps → match_ordering o 0 p.1 (count_of v ps) ≤ p.1 + total ps
    step Less rest = omega arith
    step Equal rest = omega arith
    step Greater rest = omega arith

-- the copies of a value in a bag of few values are a number of the language
pub few_copies : (v : ℤ) (b : Counts) (copies : ℕ) → total b ≤ 4096 → copies ≡ count_of v b → copies < 2 ^ 63
few_copies v b copies few is = let within = count_within v b in omega arith
