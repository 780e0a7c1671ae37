-- Sums of products of two lists, index by index.
use Rattle.std.proofs.Common.{◌≡◌, ℕ, zero, suc, ◌+◌, ◌*◌, ◌≤◌, List, [], ◌∷◌, length, get_or, replicate, refl}
use Rattle.std.proofs.Common.{ap, ◌∙◌, arith}
use Rattle.std.specs.List.{range_with_len, sum, sum_by}
use Rattle.std.proofs.Math.ListN.{set}
use Rattle.std.proofs.Math.Nat.{mul_comm}
use Rattle.std.proofs.lemmas.List.{length-set}
use Rattle.std.proofs.lemmas.List.Sums.{sum_by-cons}
use Rattle.dv_bag.specs.Bag.{capped}
use Rattle.dv_flat.specs.Ways.{at_port, more_at}
use Rattle.dv_flat.proofs.Alike.{Alike, alike_times}

-- up to the end of the shorter list
abbrev pub product : List ℕ → List ℕ → ℕ
product [] ys = 0
product (x ∷ xs) [] = 0
product (x ∷ xs) (y ∷ ys) = x * y + product xs ys

-- the same of lists of lists
abbrev pub products : List (List ℕ) → List (List ℕ) → ℕ
products [] ys = 0
products (x ∷ xs) [] = 0
products (x ∷ xs) (y ∷ ys) = product x y + products xs ys

pub product_flip : (xs ys : List ℕ) → product xs ys ≡ product ys xs
product_flip [] [] = refl
product_flip [] (y ∷ ys) = refl
product_flip (x ∷ xs) [] = refl
product_flip (x ∷ xs) (y ∷ ys) = let first = mul_comm x y in let rest = product_flip xs ys in omega (arith, first, rest)

first_more : (x y more rest : ℕ) → Alike (capped (x + more) * y + rest) ((x * y + rest) + more * y)
first_more x y more rest = let one = alike_times (capped (x + more)) (x + more) y (omega arith) in omega (arith, one)

-- with more at an index of the first list
pub product_more : (xs ys : List ℕ) (port more : ℕ) → length ys ≤ length xs →
    Alike (product (more_at port more xs) ys) (product xs ys + more * at_port ys port)
product_more [] [] port more short = omega arith
product_more [] (y ∷ ys) port more short = absurd (omega (arith, short))
product_more (x ∷ xs) [] zero more short = omega arith
product_more (x ∷ xs) [] (suc port) more short = omega arith
product_more (x ∷ xs) (y ∷ ys) zero more short = first_more x y more (product xs ys)
product_more (x ∷ xs) (y ∷ ys) (suc port) more short =
    let rest = product_more xs ys port more (omega (arith, short)) in omega (arith, rest)

-- each list of the second is as long as that of the first at its index; the first may have more lists
pub data Covers : List (List ℕ) → List (List ℕ) → Type 0 where
  no_more : {xs : List (List ℕ)} → Covers xs []
  one_more : {x y : List ℕ} {xs ys : List (List ℕ)} → length x ≡ length y → Covers xs ys → Covers (x ∷ xs) (y ∷ ys)

-- with more at a port of a part
abbrev pub more_in : ℕ → ℕ → ℕ → List (List ℕ) → List (List ℕ)
more_in part port more xs = set xs part (more_at port more (get_or xs part []))

pub length-more_at : (port more : ℕ) (xs : List ℕ) → length (more_at port more xs) ≡ length xs
length-more_at port more xs = length-set xs port (capped (at_port xs port + more))

pub covers_more : (part port more : ℕ) {xs ys : List (List ℕ)} → Covers xs ys → Covers (more_in part port more xs) ys
covers_more part port more no_more = no_more
covers_more zero port more (one_more {x = x} same rest) = one_more (length-more_at port more x ∙ same) rest
covers_more (suc part) port more (one_more same rest) = one_more same (covers_more part port more rest)

pub products_none : (xs : List (List ℕ)) → products xs [] ≡ 0
products_none [] = refl
products_none (x ∷ xs) = refl

pub products_more : (part port more : ℕ) {xs ys : List (List ℕ)} → Covers xs ys →
    Alike (products (more_in part port more xs) ys) (products xs ys + more * at_port (get_or ys part []) port)
products_more part port more (no_more {xs = xs}) =
    let before = products_none xs in
    let after = products_none (more_in part port more xs) in
    omega (arith, before, after)
products_more zero port more (one_more {x = x} {y = y} {xs = xs} {ys = ys} same rest) =
    let first = product_more x y port more (omega (arith, same)) in omega (arith, first)
products_more (suc part) port more (one_more {x = x} {y = y} {xs = xs} {ys = ys} same rest) =
    let behind = products_more part port more rest in omega (arith, behind)

-- with nothing
pub product_zeros : (n : ℕ) (ys : List ℕ) → product (replicate n 0) ys ≡ 0
product_zeros zero ys = refl
product_zeros (suc n) [] = refl
product_zeros (suc n) (y ∷ ys) = let rest = product_zeros n ys in omega (arith, rest)

-- with ones
pub product_ones : (n : ℕ) (ys : List ℕ) → length ys ≤ n → product (replicate n 1) ys ≡ sum ys
product_ones zero [] short = refl
product_ones zero (y ∷ ys) short = absurd (omega (arith, short))
product_ones (suc n) [] short = refl
product_ones (suc n) (y ∷ ys) short =
    let rest = product_ones n ys (omega (arith, short)) in
    let first = sum_by-cons (λ (k : ℕ). k) y ys in
    omega (arith, rest, first)

-- what stands at the first so many ports
shifted : (x : ℕ) (xs : List ℕ) (a n : ℕ) →
    sum_by (at_port (x ∷ xs)) (range_with_len (suc a) n) ≡ sum_by (at_port xs) (range_with_len a n)
shifted x xs a zero = refl
shifted x xs a (suc n) =
    let first = sum_by-cons (at_port (x ∷ xs)) (suc a) (range_with_len (suc a + 1) n) in
    let next = sum_by-cons (at_port xs) a (range_with_len (a + 1) n) in
    let rest = shifted x xs (a + 1) n in
    let step : suc a + 1 ≡ suc (a + 1) = omega arith in
    let moved = ap (λ k. sum_by (at_port (x ∷ xs)) (range_with_len k n)) step in
    omega (arith, first, next, rest, moved)

none_up : (a n : ℕ) → sum_by (at_port []) (range_with_len a n) ≡ 0
none_up a zero = refl
none_up a (suc n) =
    let first = sum_by-cons (at_port []) a (range_with_len (a + 1) n) in let rest = none_up (a + 1) n in omega (arith, first, rest)

pub summed_up_to : (xs : List ℕ) (n : ℕ) → sum_by (at_port xs) (range_with_len 0 n) ≡ product xs (replicate n 1)
summed_up_to [] n = none_up 0 n
summed_up_to (x ∷ xs) zero = refl
summed_up_to (x ∷ xs) (suc n) =
    let first = sum_by-cons (at_port (x ∷ xs)) 0 (range_with_len (0 + 1) n) in
    let moved = shifted x xs 0 n in
    let rest = summed_up_to xs n in
    omega (arith, first, moved, rest)
