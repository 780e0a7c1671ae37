-- There are no more links between processes than pairs of them.
use Rattle.std.proofs.Common.{ℕ, zero, suc, ◌*◌, ◌≤◌, Bool, true, false, cond, List, ◌∷◌, length, length-append, arith}
use Rattle.std.proofs.Math.Nat.{mul-le-mul_left}
use Rattle.dv_conservative.specs.Channels.{all_channels, channels_from, channels_of, crosses}
use Rattle.dv_conservative.specs.Links.{Link}
use Rattle.dv_conservative.specs.World.{Channel}
use Rattle.dv_partition.specs.Limits.{greatest_processes}

one_or_none : (t : Bool) (c : Channel) (cs : List Channel) (n : ℕ) → length cs ≤ n → length (cond t (c ∷ cs) cs) ≤ suc n
one_or_none true c cs n h = omega (arith, h)
one_or_none false c cs n h = omega (arith, h)

of_one : (owner : ℕ → ℕ) (links : List Link) (p q n : ℕ) → length (channels_of owner links p q n) ≤ n
of_one owner links p q zero = omega arith
of_one owner links p q (suc n) =
    one_or_none (crosses owner links p q) (record { source = p; target = q }) (channels_of owner links p (suc q) n) n
    (of_one owner links p (suc q) n)

of_all : (owner : ℕ → ℕ) (links : List Link) (count p n : ℕ) → length (channels_from owner links count p n) ≤ n * count
of_all owner links count p zero = omega arith
of_all owner links count p (suc n) =
    let here = of_one owner links p 0 count in
    let rest = of_all owner links count (suc p) n in
    let long = length-append (channels_of owner links p 0 count) (channels_from owner links count (suc p) n) in
    omega (arith, here, rest, long)

pub few_channels : (owner : ℕ → ℕ) (links : List Link) (count : ℕ) → count ≤ greatest_processes
    → length (all_channels owner links count) ≤ 65536
few_channels owner links count few =
    let pairs = of_all owner links count 0 count in
    let square = mul-le-mul_left count few in
    omega (arith, pairs, square, few)
