-- Steps of loops over ranges of indices.
use Rattle.std.proofs.Common.{◌≡◌, ℕ, suc, ◌+◌, ◌-◌, ◌<◌, ◌∷◌, ap, arith}
use Rattle.std.specs.List.{range_with_len}

-- the first index of what is left of a range
pub range_more : (k n : ℕ) → k < n → range_with_len k (n - k) ≡ k ∷ range_with_len (k + 1) (n - (k + 1))
range_more k n within = ap (range_with_len k) (let more : n - k ≡ suc (n - (k + 1)) = omega (arith, within) in more)
