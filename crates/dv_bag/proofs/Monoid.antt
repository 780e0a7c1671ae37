-- Bags as counts: union adds counts, and equal counts are equal bags.
use Rattle.std.proofs.Common.{◌≡◌, ℕ, zero, suc, zero-add, add-zero, ◌+◌, ◌-◌, ◌^◌, ◌<◌, ◌≤◌, Bool, true, false, cond, nat_eq, []}
use Rattle.std.proofs.Common.{◌∷◌, ℤ, ◌<ℤ◌, refl, sym, ap, ◌∙◌, subst, arith}
use Rattle.std.specs.Ordering.{int_cmp}
use Rattle.std.proofs.lemmas.Bool.Decides.{nat_tests}
use Rattle.std.proofs.lemmas.Cmp.{int_ranked, by_ranked}
use Rattle.std.proofs.lemmas.Int.{ints}
use Rattle.dv_bag.specs.Bag.{Counts, IsAbove, IsBag, capped, count_of, with_copies, with_some, without_one, union, total, size}
use Rattle.dv_bag.proofs.Pairs.{cmp_less, cmp_equal, cmp_greater, bag_from_above, by_copies, some_copies, with_copies_bag}

-- the three indices of a number beside another
pub by_order : {G : Type 0} (v w : ℤ) → (v <ℤ w → G) → (v ≡ w → G) → (w <ℤ v → G) → G
by_order v w less equal greater = by_ranked _ _ _ (int_cmp v w) (int_ranked v w _ refl) (λ e p. less p) (λ e p. equal p) (λ e p. greater p)

-- a value that is not above the bound is not in the bag
pub count_below : (low v : ℤ) (b : Counts) → IsAbove low b → (low <ℤ v → ⊥) → count_of v b ≡ 0
count_below low v [] h le = refl
count_below low v (p ∷ ps) h le = by_order v p.0
    (λ lt. rw (cmp_less v p.0 lt) refl)
    (λ e. absurd (le (subst (λ (w : ℤ). low <ℤ w) (sym e) h.0)))
    (λ gt. absurd (le (omega (arith, ints, h.0))))

pub count_kept : (v : ℤ) (b : Counts) → IsBag b → count_of v b < 2 ^ 64
count_kept v [] h = omega arith
count_kept v (p ∷ ps) h = by_order v p.0
    (λ lt. rw (cmp_less v p.0 lt) (omega arith))
    (λ e. rw (cmp_equal v p.0 e) h.1)
    (λ gt. rw (cmp_greater v p.0 gt) (count_kept v ps (bag_from_above p.0 ps h.2)))

-- more copies of a value are counted at that value
count_some_same : (v : ℤ) (n : ℕ) (b : Counts) → count_of v (with_some v n b) ≡ capped (count_of v b + n)
count_some_same v n [] = rw (cmp_equal v v refl) (omega arith)
count_some_same v n (p ∷ ps) = by_order v p.0
    (λ lt. rw (cmp_less v p.0 lt, cmp_equal v v refl) (omega arith))
    (λ e. rw (cmp_equal v p.0 e, cmp_equal v p.0 e) refl)
    (λ gt. rw (cmp_greater v p.0 gt, cmp_greater v p.0 gt) (count_some_same v n ps))

-- and at no other
count_before : (w v : ℤ) (n : ℕ) (p : ℤ × ℕ) (ps : Counts) → (w ≡ v → ⊥) → v <ℤ p.0 → count_of w ((v, n) ∷ p ∷ ps) ≡ count_of w (p ∷ ps)
count_before w v n p ps other lt = by_order w v
    (λ below. rw (cmp_less w v below, cmp_less w p.0 (omega (arith, ints))) refl)
    (λ e. absurd (other e))
    (λ above. rw (cmp_greater w v above) refl)

count_tail : (w : ℤ) (x y : ℤ × ℕ) (xs ys : Counts) → x.0 ≡ y.0 → (w ≡ x.0 → x.1 ≡ y.1) → count_of w xs ≡ count_of w ys
    → count_of w (x ∷ xs) ≡ count_of w (y ∷ ys)
count_tail w x y xs ys e first rest = by_order w x.0
    (λ lt. rw (cmp_less w x.0 lt, cmp_less w y.0 (subst (λ (z : ℤ). w <ℤ z) e lt)) refl)
    (λ same. rw (cmp_equal w x.0 same, cmp_equal w y.0 (same ∙ e)) (first same))
    (λ gt. rw (cmp_greater w x.0 gt, cmp_greater w y.0 (subst (λ (z : ℤ). z <ℤ w) e gt)) rest)

count_some_other : (w v : ℤ) (n : ℕ) (b : Counts) → (w ≡ v → ⊥) → count_of w (with_some v n b) ≡ count_of w b
count_some_other w v n [] other =
    by_order w v (λ lt. rw (cmp_less w v lt) refl) (λ e. absurd (other e)) (λ gt. rw (cmp_greater w v gt) refl)
count_some_other w v n (p ∷ ps) other = by_order v p.0
    (λ lt. rw (cmp_less v p.0 lt) (count_before w v (capped n) p ps other lt))
    (λ e. rw (cmp_equal v p.0 e) (count_tail w (p.0, capped (p.1 + n)) p ps ps refl (λ same. absurd (other (same ∙ sym e))) refl))
    (λ gt. rw (cmp_greater v p.0 gt) (count_tail w p p (with_some v n ps) ps refl (λ same. refl) (count_some_other w v n ps other)))

pub count_with_same : (v : ℤ) (n : ℕ) (b : Counts) → IsBag b → count_of v (with_copies v n b) ≡ capped (count_of v b + n)
count_with_same v n b h =
    let kept = count_kept v b h in
    by_copies (λ new. count_of v new ≡ capped (count_of v b + n)) v n b (λ e. omega arith) (λ more. count_some_same v n b)

pub count_with_other : (w v : ℤ) (n : ℕ) (b : Counts) → (w ≡ v → ⊥) → count_of w (with_copies v n b) ≡ count_of w b
count_with_other w v n b other = by_copies (λ new. count_of w new ≡ count_of w b) v n b (λ e. refl) (λ more. count_some_other w v n b other)

-- one copy less is one less at that value
pub count_without_same : (v : ℤ) (b : Counts) → IsBag b → count_of v (without_one v b) ≡ count_of v b - 1
count_without_same v [] h = omega arith
count_without_same v (p ∷ ps) h = by_order v p.0
    (λ lt. rw (cmp_less v p.0 lt, cmp_less v p.0 lt) (omega arith))
    (λ e. rw (cmp_equal v p.0 e) (last_or_not (nat_eq p.1 1) refl e))
    (λ gt. rw (cmp_greater v p.0 gt, cmp_greater v p.0 gt) (count_without_same v ps (bag_from_above p.0 ps h.2)))
  where
    last_or_not : (t : Bool) → nat_eq p.1 1 ≡ t → v ≡ p.0 → count_of v (cond t ps ((p.0, p.1 - 1) ∷ ps)) ≡ p.1 - 1
    last_or_not true one e =
        let last : p.1 ≡ 1 = grind (arith, nat_tests) in
        count_below p.0 v ps h.2 (λ lt. absurd (omega (arith, ints))) ∙ sym (omega arith)
    last_or_not false one e = rw (cmp_equal v p.0 e) refl

pub count_without_other : (w v : ℤ) (b : Counts) → IsBag b → (w ≡ v → ⊥) → count_of w (without_one v b) ≡ count_of w b
count_without_other w v [] h other = refl
count_without_other w v (p ∷ ps) h other = by_order v p.0
    (λ lt. rw (cmp_less v p.0 lt) refl)
    (λ e. rw (cmp_equal v p.0 e) (last_or_not (nat_eq p.1 1) e))
    (λ gt.
    rw (cmp_greater v p.0 gt)
    (count_tail w p p (without_one v ps) ps refl (λ same. refl)
    (count_without_other w v ps (bag_from_above p.0 ps h.2) other)))
  where
    gone : v ≡ p.0 → count_of w ps ≡ count_of w (p ∷ ps)
    gone e = by_order w p.0
        (λ lt. count_below p.0 w ps h.2 (λ above. absurd (omega (arith, ints))) ∙ sym (rw (cmp_less w p.0 lt) refl))
        (λ same. absurd (other (same ∙ sym e)))
        (λ gt. sym (rw (cmp_greater w p.0 gt) refl))

    last_or_not : (t : Bool) → v ≡ p.0 → count_of w (cond t ps ((p.0, p.1 - 1) ∷ ps)) ≡ count_of w (p ∷ ps)
    last_or_not true e = gone e
    last_or_not false e = count_tail w (p.0, p.1 - 1) p ps ps refl (λ same. absurd (other (same ∙ sym e))) refl

-- union keeps bags, and adds counts
pub union_bag : (a b : Counts) → IsBag a → IsBag b → IsBag (union a b)
union_bag a [] h k = h
union_bag a (p ∷ ps) h k = union_bag (with_copies p.0 p.1 a) ps (with_copies_bag p.0 p.1 a h) (bag_from_above p.0 ps k.2)

pub count_union : (v : ℤ) (a b : Counts) → IsBag a → IsBag b → count_of v (union a b) ≡ capped (count_of v a + count_of v b)
count_union v a [] h k = let kept = count_kept v a h in omega arith
count_union v a (p ∷ ps) h k =
    let rest = count_union v (with_copies p.0 p.1 a) ps (with_copies_bag p.0 p.1 a h) (bag_from_above p.0 ps k.2) in
    by_order v p.0
    (λ lt.
    let same = count_with_other v p.0 p.1 a (λ e. absurd (omega (arith, ints))) in
    let none = count_below p.0 v ps k.2 (λ above. absurd (omega (arith, ints))) in
    rw (cmp_less v p.0 lt) (omega arith))
    (λ e.
    let more : count_of v (with_copies p.0 p.1 a) ≡ capped (count_of v a + p.1) =
    subst (λ (w : ℤ). count_of v (with_copies w p.1 a) ≡ capped (count_of v a + p.1)) e (count_with_same v p.1 a h) in
    let none = count_below p.0 v ps k.2 (λ above. absurd (omega (arith, ints))) in
    rw (cmp_equal v p.0 e) (omega arith))
    (λ gt.
    let same = count_with_other v p.0 p.1 a (λ e. absurd (omega (arith, ints))) in
    rw (cmp_greater v p.0 gt) (omega arith))

-- bags with the same counts are equal
abbrev pub SameCounts : Counts → Counts → Type 0
SameCounts a b = (v : ℤ) → count_of v a ≡ count_of v b

count_first : (p : ℤ × ℕ) (ps : Counts) → count_of p.0 (p ∷ ps) ≡ p.1
count_first p ps = rw (cmp_equal p.0 p.0 refl) refl

same_first : (p q : ℤ × ℕ) (ps qs : Counts) → IsBag (p ∷ ps) → IsBag (q ∷ qs) → SameCounts (p ∷ ps) (q ∷ qs) → p.0 ≡ q.0
same_first p q ps qs h k same = by_order p.0 q.0
    (λ lt. let none : count_of p.0 (q ∷ qs) ≡ 0 = rw (cmp_less p.0 q.0 lt) refl in absurd (omega (arith, same p.0, count_first p ps, h.0)))
    (λ e. e)
    (λ gt. let none : count_of q.0 (p ∷ ps) ≡ 0 = rw (cmp_less q.0 p.0 gt) refl in absurd (omega (arith, same q.0, count_first q qs, k.0)))

same_tail : (p q : ℤ × ℕ) (ps qs : Counts) → IsBag (p ∷ ps) → IsBag (q ∷ qs) → SameCounts (p ∷ ps) (q ∷ qs) → p.0 ≡ q.0 → SameCounts ps qs
same_tail p q ps qs h k same e v = by_order v p.0
    (λ lt.
    count_below p.0 v ps h.2 (λ above. absurd (omega (arith, ints)))
    ∙ sym (count_below q.0 v qs k.2 (λ above. absurd (omega (arith, ints)))))
    (λ here.
    count_below p.0 v ps h.2 (λ above. absurd (omega (arith, ints)))
    ∙ sym (count_below q.0 v qs k.2 (λ above. absurd (omega (arith, ints)))))
    (λ gt.
    let left : count_of v (p ∷ ps) ≡ count_of v ps = rw (cmp_greater v p.0 gt) refl in
    let right : count_of v (q ∷ qs) ≡ count_of v qs = rw (cmp_greater v q.0 (subst (λ (z : ℤ). z <ℤ v) e gt)) refl in
    sym left ∙ same v ∙ right)

pub same_counts_same_bag : (a b : Counts) → IsBag a → IsBag b → SameCounts a b → a ≡ b
same_counts_same_bag [] [] h k same = refl
same_counts_same_bag [] (q ∷ qs) h k same = absurd (omega (arith, same q.0, count_first q qs, k.0))
same_counts_same_bag (p ∷ ps) [] h k same = absurd (omega (arith, same p.0, count_first p ps, h.0))
same_counts_same_bag (p ∷ ps) (q ∷ qs) h k same =
    let value = same_first p q ps qs h k same in
    let first : count_of p.0 (q ∷ qs) ≡ q.1 = rw (cmp_equal p.0 q.0 value) refl in
    let copies : p.1 ≡ q.1 = sym (count_first p ps) ∙ same p.0 ∙ first in
    let rest = same_counts_same_bag ps qs (bag_from_above p.0 ps h.2) (bag_from_above q.0 qs k.2) (same_tail p q ps qs h k same value) in
    ap (λ (v : ℤ). (v, p.1) ∷ ps) value ∙ ap (λ (n : ℕ). (q.0, n) ∷ ps) copies ∙ ap (λ (xs : Counts). q ∷ xs) rest

-- the laws of a commutative monoid
pub union_unit : (b : Counts) → IsBag b → union [] b ≡ b
union_unit b h =
    same_counts_same_bag (union [] b) b (union_bag [] b tt h) h
    (λ v. let kept = count_kept v b h in count_union v [] b tt h ∙ omega arith)

pub union_comm : (a b : Counts) → IsBag a → IsBag b → union a b ≡ union b a
union_comm a b h k =
    same_counts_same_bag (union a b) (union b a) (union_bag a b h k) (union_bag b a k h)
    (λ v. let left = count_union v a b h k in let right = count_union v b a k h in omega arith)

pub union_assoc : (a b c : Counts) → IsBag a → IsBag b → IsBag c → union (union a b) c ≡ union a (union b c)
union_assoc a b c h k l =
    let ab = union_bag a b h k in
    let bc = union_bag b c k l in
    same_counts_same_bag (union (union a b) c) (union a (union b c)) (union_bag (union a b) c ab l) (union_bag a (union b c) h bc) (λ v.
    let first = count_union v a b h k in
    let left = count_union v (union a b) c ab l in
    let second = count_union v b c k l in
    let right = count_union v a (union b c) h bc in
    omega arith)

-- sizes add
total_some : (v : ℤ) (n : ℕ) (b : Counts)
    → (capped (total (with_some v n b)) ≡ capped (total b + n)) × (total (with_some v n b) ≤ total b + n)
total_some v n [] = (omega arith, omega arith)
total_some v n (p ∷ ps) = by_order v p.0
    (λ lt. rw (cmp_less v p.0 lt) (omega arith, omega arith))
    (λ e. rw (cmp_equal v p.0 e) (omega arith, omega arith))
    (λ gt. let rest = total_some v n ps in rw (cmp_greater v p.0 gt) (omega arith, omega arith))

pub total_with : (v : ℤ) (n : ℕ) (b : Counts)
    → (capped (total (with_copies v n b)) ≡ capped (total b + n)) × (total (with_copies v n b) ≤ total b + n)
total_with v n b =
    by_copies (λ new. (capped (total new) ≡ capped (total b + n)) × (total new ≤ total b + n)) v n b
    (λ e. (omega arith, omega arith)) (λ more. total_some v n b)

pub total_without : (v : ℤ) (b : Counts) → total (without_one v b) ≤ total b
total_without v [] = omega arith
total_without v (p ∷ ps) = by_order v p.0
    (λ lt. rw (cmp_less v p.0 lt) (omega arith))
    (λ e. rw (cmp_equal v p.0 e) (one_less (nat_eq p.1 1)))
    (λ gt. let rest = total_without v ps in rw (cmp_greater v p.0 gt) (omega arith))
  where
    one_less : (t : Bool) → total (cond t ps ((p.0, p.1 - 1) ∷ ps)) ≤ p.1 + total ps
    one_less true = omega arith
    one_less false = omega arith

pub total_union : (a b : Counts) → (capped (total (union a b)) ≡ capped (total a + total b)) × (total (union a b) ≤ total a + total b)
total_union a [] = (omega arith, omega arith)
total_union a (p ∷ ps) =
    let first = total_with p.0 p.1 a in
    let rest = total_union (with_copies p.0 p.1 a) ps in
    (omega arith, omega arith)

pub size_union : (a b : Counts) → size (union a b) ≡ capped (size a + size b)
size_union a b = let sum = total_union a b in omega arith

pub total_union_small : (a b : Counts) → total a + total b < 2 ^ 64 → total (union a b) ≡ total a + total b
total_union_small a b small = let sum = total_union a b in omega arith

pub size_0 : (b : Counts) → IsBag b → size b ≡ 0 → b ≡ []
size_0 [] h e = refl
size_0 (p ∷ ps) h e = absurd (omega (arith, h.0))

-- copies of two values, in either order
twice_same : (v : ℤ) (n m : ℕ) (b : Counts) → with_some v n (with_some v m b) ≡ with_some v m (with_some v n b)
twice_same v n m [] =
    let same : capped (capped m + n) ≡ capped (capped n + m) = omega arith in
    rw (cmp_equal v v refl) (ap (λ (k : ℕ). (v, k) ∷ []) same)
twice_same v n m (p ∷ ps) = by_order v p.0
    (λ lt.
    let same : capped (capped m + n) ≡ capped (capped n + m) = omega arith in
    rw (cmp_less v p.0 lt, cmp_equal v v refl) (ap (λ (k : ℕ). (v, k) ∷ p ∷ ps) same))
    (λ e.
    let same : capped (capped (p.1 + m) + n) ≡ capped (capped (p.1 + n) + m) = omega arith in
    rw (cmp_equal v p.0 e, cmp_equal v p.0 e) (ap (λ (k : ℕ). (p.0, k) ∷ ps) same))
    (λ gt. rw (cmp_greater v p.0 gt, cmp_greater v p.0 gt) (ap (λ (qs : Counts). p ∷ qs) (twice_same v n m ps)))

less_first : (v w : ℤ) (n m : ℕ) (b : Counts) → v <ℤ w → with_some v n (with_some w m b) ≡ with_some w m (with_some v n b)
less_first v w n m [] lt = rw (cmp_less v w lt, cmp_greater w v lt) refl
less_first v w n m (p ∷ ps) lt = by_order v p.0
    (λ below. by_order w p.0
    (λ under. rw (cmp_less v p.0 below, cmp_less w p.0 under, cmp_less v w lt, cmp_greater w v lt) refl)
    (λ e. rw (cmp_less v p.0 below, cmp_equal w p.0 e, cmp_less v p.0 below, cmp_greater w v lt) refl)
    (λ over. rw (cmp_less v p.0 below, cmp_greater w p.0 over, cmp_less v p.0 below, cmp_greater w v lt) refl))
    (λ e.
    let over : p.0 <ℤ w = subst (λ (z : ℤ). z <ℤ w) e lt in
    rw (cmp_equal v p.0 e, cmp_greater w p.0 over, cmp_equal v p.0 e) refl)
    (λ above.
    let over : p.0 <ℤ w = omega (arith, ints) in
    rw (cmp_greater v p.0 above, cmp_greater w p.0 over, cmp_greater v p.0 above) (ap (λ (qs : Counts). p ∷ qs) (less_first v w n m ps lt)))

some_either : (v w : ℤ) (n m : ℕ) (b : Counts) → with_some v n (with_some w m b) ≡ with_some w m (with_some v n b)
some_either v w n m b = by_order v w
    (λ lt. less_first v w n m b lt)
    (λ e. subst (λ (z : ℤ). with_some v n (with_some z m b) ≡ with_some z m (with_some v n b)) e (twice_same v n m b))
    (λ gt. sym (less_first w v m n b gt))

pub copies_either : (v w : ℤ) (n m : ℕ) (b : Counts) → with_copies v n (with_copies w m b) ≡ with_copies w m (with_copies v n b)
copies_either v w zero m b = refl
copies_either v w (suc n) zero b = refl
copies_either v w (suc n) (suc m) b = some_either v w (suc n) (suc m) b

-- copies of one value, joined
some_join : (v : ℤ) (n m : ℕ) (b : Counts) → with_some v n (with_some v m b) ≡ with_some v (n + m) b
some_join v n m [] =
    let same : capped (capped m + n) ≡ capped (n + m) = omega arith in
    rw (cmp_equal v v refl) (ap (λ (k : ℕ). (v, k) ∷ []) same)
some_join v n m (p ∷ ps) = by_order v p.0
    (λ lt.
    let same : capped (capped m + n) ≡ capped (n + m) = omega arith in
    rw (cmp_less v p.0 lt, cmp_equal v v refl) (ap (λ (k : ℕ). (v, k) ∷ p ∷ ps) same))
    (λ e.
    let same : capped (capped (p.1 + m) + n) ≡ capped (p.1 + (n + m)) = omega arith in
    rw (cmp_equal v p.0 e, cmp_equal v p.0 e) (ap (λ (k : ℕ). (p.0, k) ∷ ps) same))
    (λ gt. rw (cmp_greater v p.0 gt, cmp_greater v p.0 gt) (ap (λ (qs : Counts). p ∷ qs) (some_join v n m ps)))

some_capped : (v : ℤ) (n : ℕ) (b : Counts) → with_some v (capped n) b ≡ with_some v n b
some_capped v n [] = let same : capped (capped n) ≡ capped n = omega arith in ap (λ (k : ℕ). (v, k) ∷ []) same
some_capped v n (p ∷ ps) = by_order v p.0
    (λ lt. let same : capped (capped n) ≡ capped n = omega arith in rw (cmp_less v p.0 lt) (ap (λ (k : ℕ). (v, k) ∷ p ∷ ps) same))
    (λ e.
    let same : capped (p.1 + capped n) ≡ capped (p.1 + n) = omega arith in
    rw (cmp_equal v p.0 e) (ap (λ (k : ℕ). (p.0, k) ∷ ps) same))
    (λ gt. rw (cmp_greater v p.0 gt) (ap (λ (qs : Counts). p ∷ qs) (some_capped v n ps)))

pub copies_capped : (v : ℤ) (n : ℕ) (b : Counts) → with_copies v (capped n) b ≡ with_copies v n b
copies_capped v zero b = refl
copies_capped v (suc n) b = some_copies v (capped (suc n)) b (omega arith) ∙ some_capped v (suc n) b

pub copies_join : (v : ℤ) (n m : ℕ) (b : Counts) → with_copies v n (with_copies v m b) ≡ with_copies v (n + m) b
copies_join v zero m b = ap (λ (k : ℕ). with_copies v k b) (sym (zero-add m))
copies_join v (suc n) zero b = ap (λ (k : ℕ). with_copies v k b) (sym (add-zero (suc n)))
copies_join v (suc n) (suc m) b = some_join v (suc n) (suc m) b ∙ sym (some_copies v (suc n + suc m) b (omega arith))
