-- The sum of copies of one number.
use Rattle.std.proofs.Common.{◌≡◌, ℕ, ◌*◌, ◌^◌, ◌-◌, ◌<◌, ◌≤◌, refl, ℤ, pos, negsuc, neg_ℤ, ◌*ℤ◌, ◌≤ℤ◌, unsigned_abs, arith}
use Rattle.std.proofs.lemmas.Int.{ints, to_z-of_z, fits_signed_mul, unsigned_abs-mul}
use Rattle.std.proofs.Math.Nat.{mul-le-mul_left}
use mir.Syntax.{w64, w128}
use mir.Val.{SFits, to_z, of_z}

within_abs : (z : ℤ) (n : ℕ) → unsigned_abs z ≤ n → (neg_ℤ (pos n) ≤ℤ z) × (z ≤ℤ pos n)
within_abs (pos m) n h = (omega (arith, ints), omega (arith, ints))
within_abs (negsuc m) n h = (omega (arith, ints), omega (arith, ints))

abs_fits : (v : ℤ) → SFits w64 v → unsigned_abs v ≤ 2 ^ 63
abs_fits (pos m) h = omega (arith, h.sfits)
abs_fits (negsuc m) h = omega (arith, h.sfits)

pub weight_within : (v : ℤ) (copies : ℕ) → SFits w64 v
    → (neg_ℤ (pos (2 ^ 63 * copies)) ≤ℤ (pos copies *ℤ v)) × ((pos copies *ℤ v) ≤ℤ pos (2 ^ 63 * copies))
weight_within v copies h =
    let product = unsigned_abs-mul (pos copies) v in
    let small = abs_fits v h in
    let most = mul-le-mul_left copies small in
    within_abs (pos copies *ℤ v) (2 ^ 63 * copies) (omega (arith, product, most))

-- the product does not leave 128 bits
pub weight_is : (v : ℤ) (copies : ℕ) (a b : ℤ) → SFits w64 v → copies < 2 ^ 64 → a ≡ pos copies → b ≡ v
    → to_z w128 (of_z w128 (to_z w128 (of_z w128 a) *ℤ to_z w128 (of_z w128 b))) ≡ pos copies *ℤ v
weight_is v copies a b h small ea eb =
    let bound = abs_fits v h in
    let first : SFits w128 (pos copies) = omega (arith, ints) in
    let second : SFits w128 v = omega (arith, ints, h) in
    let fits = fits_signed_mul w128 (pos copies) v (2 ^ 64 - 1) (2 ^ 63) (omega arith) bound (omega arith) in
    rw (ea, eb, to_z-of_z w128 (pos copies) first, to_z-of_z w128 v second, to_z-of_z w128 (pos copies *ℤ v) fits) refl
