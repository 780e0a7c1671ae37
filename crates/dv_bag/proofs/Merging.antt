-- Two bags in the order of their values: what the first pair of their union is, and what is left of them behind it.
use Rattle.std.proofs.Common.{◌≡◌, ℕ, suc, ◌+◌, ◌-◌, ◌<◌, ◌≤◌, ◌^◌, [], ◌∷◌, length, take, drop}
use Rattle.std.proofs.Common.{slice_index_or, ℤ, pos, ◌<ℤ◌, refl, sym, ap, ap₂, ◌∙◌, subst, arith}
use Rattle.std.specs.Ordering.{int_cmp}
use Rattle.std.specs.declared.cmp.Ordering.TheVariants.{Less, Equal, Greater}
use Rattle.std.proofs.lemmas.List.{take_all}
use Rattle.dv_bag.specs.Bag.{Counts, IsAbove, IsBag, capped, with_copies, union}
use Rattle.dv_bag.proofs.Monoid.{by_order}
use Rattle.dv_bag.proofs.Pairs.{above_lower, cmp_less, cmp_equal, cmp_greater, some_copies}

-- the first pair stays where all that comes is above it
pub stays_first : (p : ℤ × ℕ) (a b : Counts) → IsAbove p.0 b → union (p ∷ a) b ≡ p ∷ union a b
stays_first p a [] h = refl
stays_first p a (q ∷ b) h =
    ap (λ (c : Counts). union c b)
    (some_copies q.0 q.1 (p ∷ a) h.1 ∙ rw (cmp_greater q.0 p.0 h.0) refl
    ∙ sym (ap (λ (c : Counts). p ∷ c) (some_copies q.0 q.1 a h.1)))
    ∙ stays_first p (with_copies q.0 q.1 a) b (above_lower q.0 p.0 b h.0 h.3)

-- a count that is kept is none above the greatest
kept : (n : ℕ) → n < 2 ^ 64 → capped n ≡ n
kept n h = omega arith

pub first_alone : (q : ℤ × ℕ) (b : Counts) → IsBag (q ∷ b) → union [] (q ∷ b) ≡ q ∷ union [] b
first_alone q b h =
    ap (λ (c : Counts). union c b)
    (some_copies q.0 q.1 [] h.0 ∙ ap (λ (n : ℕ). (q.0, n) ∷ []) (kept q.1 h.1))
    ∙ stays_first q [] b h.2

pub first_less : (p q : ℤ × ℕ) (a b : Counts) → p.0 <ℤ q.0 → IsBag (q ∷ b) →
    union (p ∷ a) (q ∷ b) ≡ p ∷ union a (q ∷ b)
first_less p q a b lt h = stays_first p a (q ∷ b) (lt, h.0, h.1, h.2)

pub first_equal : (p q : ℤ × ℕ) (a b : Counts) → p.0 ≡ q.0 → IsBag (q ∷ b) →
    union (p ∷ a) (q ∷ b) ≡ (p.0, capped (p.1 + q.1)) ∷ union a b
first_equal p q a b e h =
    ap (λ (c : Counts). union c b) (some_copies q.0 q.1 (p ∷ a) h.0 ∙ rw (cmp_equal q.0 p.0 (sym e)) refl)
    ∙ stays_first (p.0, capped (p.1 + q.1)) a b (subst (λ (v : ℤ). IsAbove v b) (sym e) h.2)

pub first_greater : (p q : ℤ × ℕ) (a b : Counts) → q.0 <ℤ p.0 → IsBag (q ∷ b) →
    union (p ∷ a) (q ∷ b) ≡ q ∷ union (p ∷ a) b
first_greater p q a b lt h =
    ap (λ (c : Counts). union c b)
    (some_copies q.0 q.1 (p ∷ a) h.0 ∙ rw (cmp_less q.0 p.0 lt) (ap (λ (n : ℕ). (q.0, n) ∷ p ∷ a) (kept q.1 h.1)))
    ∙ stays_first q (p ∷ a) b h.2

-- the same of lists by their first elements, as they are taken apart
abbrev none : ℤ × ℕ
none = (pos 0, 0)

abbrev first_of : Counts → ℤ × ℕ
first_of b = slice_index_or b 0 none

abbrev rest_of : Counts → Counts
rest_of b = take (length b - 1) (drop 1 b)

rest_is : (p : ℤ × ℕ) (a : Counts) → rest_of (p ∷ a) ≡ a
rest_is p a = take_all (suc (length a) - 1) a (omega arith)

-- the answers of a comparison differ
less_equal : Less ≡ Equal → ⊥
less_equal h = cc

less_greater : Less ≡ Greater → ⊥
less_greater h = cc

equal_greater : Equal ≡ Greater → ⊥
equal_greater h = cc

less_than : (v w : ℤ) → int_cmp v w ≡ Less → v <ℤ w
less_than v w h = by_order v w
    (λ lt. lt)
    (λ e. absurd (less_equal (sym h ∙ cmp_equal v w e)))
    (λ gt. absurd (less_greater (sym h ∙ cmp_greater v w gt)))

same_as : (v w : ℤ) → int_cmp v w ≡ Equal → v ≡ w
same_as v w h = by_order v w
    (λ lt. absurd (less_equal (sym (cmp_less v w lt) ∙ h)))
    (λ e. e)
    (λ gt. absurd (equal_greater (sym h ∙ cmp_greater v w gt)))

more_than : (v w : ℤ) → int_cmp v w ≡ Greater → w <ℤ v
more_than v w h = by_order v w
    (λ lt. absurd (less_greater (sym (cmp_less v w lt) ∙ h)))
    (λ e. absurd (equal_greater (sym (cmp_equal v w e) ∙ h)))
    (λ gt. gt)

pub alone_at : (a b : Counts) → length a ≡ 0 → 1 ≤ length b → IsBag b → union a b ≡ first_of b ∷ union a (rest_of b)
alone_at a [] empty some h = absurd (omega (arith, some))
alone_at [] (q ∷ b) empty some h = first_alone q b h ∙ sym (ap (λ (c : Counts). q ∷ union [] c) (rest_is q b))
alone_at (p ∷ a) (q ∷ b) empty some h = absurd (omega (arith, empty))

pub less_at : (a b : Counts) → 1 ≤ length a → 1 ≤ length b → IsBag b → int_cmp (first_of a).0 (first_of b).0 ≡ Less
    → union a b ≡ first_of a ∷ union (rest_of a) b
less_at [] b some more h e = absurd (omega (arith, some))
less_at (p ∷ a) [] some more h e = absurd (omega (arith, more))
less_at (p ∷ a) (q ∷ b) some more h e =
    first_less p q a b (less_than p.0 q.0 e) h ∙ sym (ap (λ (c : Counts). p ∷ union c (q ∷ b)) (rest_is p a))

-- `v` and `n` are the value and the copies of both, as code has them
pub equal_at : (a b : Counts) (v : ℤ) (n : ℕ) → 1 ≤ length a → 1 ≤ length b → IsBag b
    → int_cmp (first_of a).0 (first_of b).0 ≡ Equal → v ≡ (first_of a).0 → n ≡ capped ((first_of a).1 + (first_of b).1)
    → union a b ≡ (v, n) ∷ union (rest_of a) (rest_of b)
equal_at [] b v n some more h e value copies = absurd (omega (arith, some))
equal_at (p ∷ a) [] v n some more h e value copies = absurd (omega (arith, more))
equal_at (p ∷ a) (q ∷ b) v n some more h e value copies =
    first_equal p q a b (same_as p.0 q.0 e) h
    ∙ sym (ap₂ (λ (c d : Counts). (p.0, capped (p.1 + q.1)) ∷ union c d) (rest_is p a) (rest_is q b))
    ∙ sym (ap₂ (λ (w : ℤ) (m : ℕ). (w, m) ∷ union (rest_of (p ∷ a)) (rest_of (q ∷ b))) value copies)

pub greater_at : (a b : Counts) → 1 ≤ length a → 1 ≤ length b → IsBag b → int_cmp (first_of a).0 (first_of b).0 ≡ Greater
    → union a b ≡ first_of b ∷ union a (rest_of b)
greater_at [] b some more h e = absurd (omega (arith, some))
greater_at (p ∷ a) [] some more h e = absurd (omega (arith, more))
greater_at (p ∷ a) (q ∷ b) some more h e =
    first_greater p q a b (more_than p.0 q.0 e) h ∙ sym (ap (λ (c : Counts). q ∷ union (p ∷ a) c) (rest_is q b))
