-- The order of refusals: by their offsets, and then by their numbers.
use Rattle.std.proofs.Common.{◌≡◌, ℕ, ◌+◌, ◌*◌, ◌<◌, ◌≤◌, Bool, true, false, ◌||◌, ◌&&◌, nat_lt, nat_eq, if◌then◌else◌, List, []}
use Rattle.std.proofs.Common.{◌∷◌, get_or, refl, sym, ap, ◌∙◌, Option, Some, None, ◌⊎◌, inl, inr, ⊎_elim, Contains, arith}
use Rattle.std.specs.List.{All, AllByRecursion}
use Rattle.std.proofs.lemmas.Bool.{ltb-true, ltb-false, lt-ltb, le-ltb}
use Rattle.std.proofs.lemmas.Bool.Decides.{nat_tests}
use Rattle.std.proofs.lemmas.List.Elements.{All-from_recursion, Contains-append_right}
use Rattle.dv_lex.specs.declared.error.Refusal.{Refusal}
use Rattle.dv_lex.specs.declared.error.RefusalNumber.{RefusalNumber}
use Rattle.dv_lex.specs.declared.error.RefusalNumber.TheVariants.{E1, E2, E3, E4, E5, E6, E7, E8, E9, E10, E11, E12, E13, E14}
use Rattle.dv_lex.specs.declared.error.RefusalNumber.TheVariants.{E15, E16, E17}
use Rattle.dv_lex.specs.Order.{ordinal, precedes, earlier, first_after, first_refusal}

-- ---- A refusal as one number

abbrev key : Refusal → ℕ
key r = r.offset * 18 + ordinal r.number

below : (n : RefusalNumber) → ordinal n < 18
below E1 = omega arith
below E2 = omega arith
below E3 = omega arith
below E4 = omega arith
below E5 = omega arith
below E6 = omega arith
below E7 = omega arith
below E8 = omega arith
below E9 = omega arith
below E10 = omega arith
below E11 = omega arith
below E12 = omega arith
below E13 = omega arith
below E14 = omega arith
below E15 = omega arith
below E16 = omega arith
below E17 = omega arith

by_key : (p q m n : ℕ) → m < 18 → n < 18 → (nat_lt p q || (nat_eq p q && nat_lt m n)) ≡ nat_lt (p * 18 + m) (q * 18 + n)
by_key p q m n below_m below_n = grind (arith, nat_tests)

precedes-key : (a b : Refusal) → precedes a b ≡ nat_lt (key a) (key b)
precedes-key a b = by_key a.offset b.offset (ordinal a.number) (ordinal b.number) (below a.number) (below b.number)

-- ---- The order

pub irreflexive : (r : Refusal) → precedes r r ≡ false
irreflexive r = precedes-key r r ∙ grind (arith, nat_tests)

below_key : (a b : Refusal) → precedes a b ≡ true → key a < key b
below_key a b e = ltb-true (key a) (key b) (sym (precedes-key a b) ∙ e)

not_below_key : (a b : Refusal) → precedes a b ≡ false → key b ≤ key a
not_below_key a b e = ltb-false (key a) (key b) (sym (precedes-key a b) ∙ e)

from_key : (a b : Refusal) → key b ≤ key a → precedes a b ≡ false
from_key a b h = precedes-key a b ∙ le-ltb (key a) (key b) h

pub transitive : (a b c : Refusal) → precedes a b ≡ true → precedes b c ≡ true → precedes a c ≡ true
transitive a b c first second = precedes-key a c ∙ lt-ltb (key a) (key c) (omega (arith, below_key a b first, below_key b c second))

-- what does not precede what does not precede a third does not precede it
pub not_transitive : (a b c : Refusal) → precedes a b ≡ false → precedes b c ≡ false → precedes a c ≡ false
not_transitive a b c first second = from_key a c (omega (arith, not_below_key b c second, not_below_key a b first))

-- a number is told by its ordinal
all_numbers : List RefusalNumber
all_numbers =
    E1 ∷ E1 ∷ E2 ∷ E3 ∷ E4 ∷ E5 ∷ E6 ∷ E7 ∷ E8 ∷ E9 ∷ E10 ∷ E11 ∷ E12 ∷ E13 ∷ E14 ∷ E15 ∷ E16 ∷ E17 ∷ []

number_at : (n : RefusalNumber) → get_or all_numbers (ordinal n) E1 ≡ n
unfolding all_numbers
number_at E1 = refl
number_at E2 = refl
number_at E3 = refl
number_at E4 = refl
number_at E5 = refl
number_at E6 = refl
number_at E7 = refl
number_at E8 = refl
number_at E9 = refl
number_at E10 = refl
number_at E11 = refl
number_at E12 = refl
number_at E13 = refl
number_at E14 = refl
number_at E15 = refl
number_at E16 = refl
number_at E17 = refl

same_offset : (p q m n : ℕ) → m < 18 → n < 18 → p * 18 + m ≡ q * 18 + n → p ≡ q
same_offset p q m n below_m below_n e = omega (arith, below_m, below_n, e)

same_ordinal : (p q m n : ℕ) → m < 18 → n < 18 → p * 18 + m ≡ q * 18 + n → m ≡ n
same_ordinal p q m n below_m below_n e = omega (arith, below_m, below_n, e)

made : RefusalNumber → ℕ → Refusal
made number offset = record { number = number; offset = offset }

same_refusal : (a b : Refusal) → key a ≡ key b → a ≡ b
unfolding made
same_refusal a b e =
    let offsets = same_offset a.offset b.offset (ordinal a.number) (ordinal b.number) (below a.number) (below b.number) e in
    let ordinals = same_ordinal a.offset b.offset (ordinal a.number) (ordinal b.number) (below a.number) (below b.number) e in
    let numbers = sym (number_at a.number) ∙ ap (λ n. get_or all_numbers n E1) ordinals ∙ number_at b.number in
    ap (λ n. made n a.offset) numbers ∙ ap (made b.number) offsets

pub total : (a b : Refusal) → precedes a b ≡ false → precedes b a ≡ false → a ≡ b
total a b first second = same_refusal a b (omega (arith, not_below_key b a second, not_below_key a b first))

-- ---- The first of a list

either : (b : Bool) (x y r : Refusal) → Some (if b then x else y) ≡ Some r → (Some y ≡ Some r) ⊎ (x ≡ r)
either true x y r h = inr cc
either false x y r h = inl h

earlier_cases : (o : Option Refusal) (x r : Refusal) → Some (earlier o x) ≡ Some r → (o ≡ Some r) ⊎ (x ≡ r)
earlier_cases None x r h = inr cc
earlier_cases (Some y) x r h = either (precedes x y) x y r h

Contains-head : (x r : Refusal) (rs : List Refusal) → x ≡ r → Contains (x ∷ rs) r
Contains-head x r rs p = (0, omega arith, p)

found_or_contained : (o : Option Refusal) (rs : List Refusal) (r : Refusal) → first_after o rs ≡ Some r → (o ≡ Some r) ⊎ Contains rs r
found_or_contained o [] r h = inl h
found_or_contained o (x ∷ rs) r h =
    ⊎_elim
    (λ p. ⊎_elim (λ q. inl q) (λ q. inr (Contains-head x r rs q)) (earlier_cases o x r p))
    (λ q. inr (Contains-append_right (x ∷ []) rs r q))
    (found_or_contained (Some (earlier o x)) rs r h)

none_some : (r : Refusal) → None ≡ Some r → ⊥
none_some r h = cc

pub first_contained : (rs : List Refusal) (r : Refusal) → first_refusal rs ≡ Some r → Contains rs r
first_contained rs r h = ⊎_elim (λ p. absurd (none_some r p)) (λ q. q) (found_or_contained None rs r h)

-- neither of two precedes a refusal that the earlier of them does not precede
neither_of : (b : Bool) (x y r : Refusal) → precedes x y ≡ b → precedes (if b then x else y) r ≡ false
    → (precedes x r ≡ false) × (precedes y r ≡ false)
neither_of true x y r test low = (low, from_key y r (omega (arith, not_below_key x r low, below_key x y test)))
neither_of false x y r test low = (not_transitive x y r test low, low)

abbrev NotBefore : Option Refusal → Refusal → Type 0
NotBefore None r = Unit {0}
NotBefore (Some y) r = precedes y r ≡ false

neither_before : (o : Option Refusal) (x r : Refusal) → precedes (earlier o x) r ≡ false → (precedes x r ≡ false) × NotBefore o r
neither_before None x r low = (low, tt)
neither_before (Some y) x r low = neither_of (precedes x y) x y r refl low

same_some : (x y : Refusal) → Some x ≡ Some y → x ≡ y
same_some x y e = cc

not_before_itself : (o : Option Refusal) (r : Refusal) → o ≡ Some r → NotBefore o r
not_before_itself None r e = tt
not_before_itself (Some y) r e = ap (λ x. precedes x r) (same_some y r e) ∙ irreflexive r

none_before : (o : Option Refusal) (rs : List Refusal) (r : Refusal) → first_after o rs ≡ Some r
    → NotBefore o r × AllByRecursion (λ x. precedes x r ≡ false) rs
none_before o [] r h = (not_before_itself o r h, tt)
none_before o (x ∷ rs) r h =
    let rest = none_before (Some (earlier o x)) rs r h in
    let both = neither_before o x r rest.0 in
    (both.1, (both.0, rest.1))

pub first_least : (rs : List Refusal) (r : Refusal) → first_refusal rs ≡ Some r → All (λ x. precedes x r ≡ false) rs
first_least rs r h = All-from_recursion (λ x. precedes x r ≡ false) rs (none_before None rs r h).1

some_after : (r : Refusal) (rs : List Refusal) → first_after (Some r) rs ≡ None → ⊥
some_after r [] e = cc
some_after r (x ∷ rs) e = some_after (earlier (Some r) x) rs e

pub none_first : (rs : List Refusal) → first_refusal rs ≡ None → rs ≡ []
none_first [] e = refl
none_first (r ∷ rs) e = absurd (some_after (earlier None r) rs e)
