-- Sums over lists: of what is the same, of what is united, and over lists made of others.
use Rattle.std.proofs.Common.{◌≡◌, ℕ, ◌+◌, List, [], ◌∷◌, map, refl, sym, ◌∙◌, arith}
use Rattle.std.specs.List.{sum_by}
use Rattle.std.proofs.lemmas.List.Sums.{sum_by-cons}
use Rattle.dv_flat.proofs.Alike.{Alike}
use Rattle.dv_flat.proofs.Capped.{sum_is_total, total_by-same, total_by-zero}

pub sums_same : {X : Type 0} (g h : X → ℕ) → ((x : X) → g x ≡ h x) → (xs : List X) → sum_by g xs ≡ sum_by h xs
sums_same g h same xs = sum_is_total g xs ∙ total_by-same g h same xs ∙ sym (sum_is_total h xs)

pub sums_united : {X : Type 0} (g h k : X → ℕ) → ((x : X) → Alike (k x) (g x + h x)) → (xs : List X) →
    Alike (sum_by k xs) (sum_by g xs + sum_by h xs)
sums_united g h k both [] = refl
sums_united g h k both (x ∷ xs) =
    let one = both x in
    let rest = sums_united g h k both xs in
    let first = sum_by-cons g x xs in
    let second = sum_by-cons h x xs in
    let third = sum_by-cons k x xs in
    omega (arith, one, rest, first, second, third)

pub sums_none : {X : Type 0} (g : X → ℕ) → ((x : X) → g x ≡ 0) → (xs : List X) → sum_by g xs ≡ 0
sums_none g none xs = sum_is_total g xs ∙ total_by-zero g none xs

pub sum_by-map : {X Y : Type 0} (f : Y → ℕ) (g : X → Y) (xs : List X) → sum_by f (map g xs) ≡ sum_by (λ x. f (g x)) xs
sum_by-map f g [] = refl
sum_by-map f g (x ∷ xs) =
    let first = sum_by-cons f (g x) (map g xs) in
    let other = sum_by-cons (λ y. f (g y)) x xs in
    let rest = sum_by-map f g xs in
    omega (arith, first, other, rest)
