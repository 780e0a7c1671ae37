-- How many copies of the value 0 a list of pairs has: union adds them, whatever the lists, and of a bag they are the count.
use Rattle.std.proofs.Common.{◌≡◌, ℕ, zero, suc, ◌+◌, Ordering, [], ◌∷◌, ℤ, pos, ◌<ℤ◌, refl, ap, arith}
use Rattle.std.specs.Ordering.{int_cmp, match_ordering}
use Rattle.std.specs.declared.cmp.Ordering.TheVariants.{Less, Equal, Greater}
use Rattle.std.proofs.lemmas.Int.{ints}
use Rattle.dv_bag.specs.Bag.{Counts, IsAbove, IsBag, capped, count_of, with_copies, with_some, union}
use Rattle.dv_bag.proofs.Monoid.{by_order, count_kept}
use Rattle.dv_bag.proofs.Pairs.{bag_from_above, cmp_less, cmp_equal, cmp_greater}
use Rattle.dv_flat.proofs.Alike.{Alike}

-- the copies of a pair, by where 0 stands beside its value
abbrev copies_if : Ordering → ℕ → ℕ
copies_if o n = match_ordering o 0 n 0

-- all copies of 0
abbrev zeros : Counts → ℕ
zeros [] = 0
zeros (p ∷ ps) = copies_if (int_cmp (pos 0) p.0) p.1 + zeros ps

-- as far as they are kept
abbrev pub copies : Counts → ℕ
copies b = capped (zeros b)

none_if : (o : Ordering) → copies_if o 0 ≡ 0
none_if Less = refl
none_if Equal = refl
none_if Greater = refl

kept_if : (o : Ordering) (n : ℕ) → Alike (copies_if o (capped n)) (copies_if o n)
kept_if Less n = refl
kept_if Equal n = omega arith
kept_if Greater n = refl

sum_if : (o : Ordering) (m n : ℕ) → Alike (copies_if o (capped (m + n))) (copies_if o n + copies_if o m)
sum_if Less m n = refl
sum_if Equal m n = omega arith
sum_if Greater m n = refl

zeros_some : (v : ℤ) (n : ℕ) (b : Counts) → Alike (zeros (with_some v n b)) (copies_if (int_cmp (pos 0) v) n + zeros b)
zeros_some v n [] = let one = kept_if (int_cmp (pos 0) v) n in omega (arith, one)
zeros_some v n (p ∷ ps) =
    by_order v p.0
    (λ lt. let one = kept_if (int_cmp (pos 0) v) n in rw (cmp_less v p.0 lt) (omega (arith, one)))
    (λ e.
    let one = sum_if (int_cmp (pos 0) p.0) p.1 n in
    let same = ap (λ w. copies_if (int_cmp (pos 0) w) n) e in
    rw (cmp_equal v p.0 e) (omega (arith, one, same)))
    (λ gt. let rest = zeros_some v n ps in rw (cmp_greater v p.0 gt) (omega (arith, rest)))

zeros_with : (v : ℤ) (n : ℕ) (b : Counts) → Alike (zeros (with_copies v n b)) (copies_if (int_cmp (pos 0) v) n + zeros b)
zeros_with v zero b = let none = none_if (int_cmp (pos 0) v) in omega (arith, none)
zeros_with v (suc n) b = zeros_some v (suc n) b

zeros_union : (a b : Counts) → Alike (zeros (union a b)) (zeros a + zeros b)
zeros_union a [] = omega arith
zeros_union a (p ∷ ps) =
    let first = zeros_with p.0 p.1 a in
    let rest = zeros_union (with_copies p.0 p.1 a) ps in
    omega (arith, first, rest)

pub copies_union : (a b : Counts) → copies (union a b) ≡ capped (copies a + copies b)
copies_union a b = let both = zeros_union a b in omega (arith, both)

-- no value above 0 is 0
zeros_above : (low : ℤ) (b : Counts) → IsAbove low b → (low <ℤ pos 0 → ⊥) → zeros b ≡ 0
zeros_above low [] h past = refl
zeros_above low (p ∷ ps) h past =
    let above : pos 0 <ℤ p.0 =
    by_order (pos 0) low (λ lt. omega (arith, ints, lt, h.0)) (λ e. omega (arith, ints, e, h.0)) (λ gt. absurd (past gt)) in
    let rest = zeros_above p.0 ps h.3 (λ lt. omega (arith, ints, above, lt)) in
    rw (cmp_less (pos 0) p.0 above) (omega (arith, rest))

count_zeros : (b : Counts) → IsBag b → count_of (pos 0) b ≡ zeros b
count_zeros [] h = refl
count_zeros (p ∷ ps) h =
    by_order (pos 0) p.0
    (λ lt. let none = zeros_above p.0 ps h.2 (λ gt. omega (arith, ints, lt, gt)) in rw (cmp_less (pos 0) p.0 lt) (omega (arith, none)))
    (λ e. let none = zeros_above p.0 ps h.2 (λ gt. omega (arith, ints, e, gt)) in rw (cmp_equal (pos 0) p.0 e) (omega (arith, none)))
    (λ gt. let rest = count_zeros ps (bag_from_above p.0 ps h.2) in rw (cmp_greater (pos 0) p.0 gt) (omega (arith, rest)))

pub copies_counted : (b : Counts) → IsBag b → count_of (pos 0) b ≡ copies b
copies_counted b h =
    let kept = count_kept (pos 0) b h in
    let zeros_is = count_zeros b h in
    omega (arith, kept, zeros_is)
