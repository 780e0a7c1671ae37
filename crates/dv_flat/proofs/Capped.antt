-- Sums of products, as counts of bags keep them: a count above the greatest one stands as that.
use Rattle.std.proofs.Common.{◌≡◌, ℕ, ◌+◌, ◌*◌, List, [], ◌∷◌, ◌++◌, refl, ap, ◌∙◌, arith}
use Rattle.std.specs.Prelude.{Option}
use Rattle.std.specs.List.{cons_option, filter_map, flat_map, sum_by}
use Rattle.std.proofs.lemmas.List.Sums.{sum_by-cons}
use Rattle.dv_bag.specs.Bag.{capped}
use Rattle.dv_flat.proofs.Alike.{alike_times}

-- the sum of a number for each item
abbrev pub total_by : {X : Type 0} → (X → ℕ) → List X → ℕ
total_by f [] = 0
total_by f (x ∷ xs) = f x + total_by f xs

pub total_by-same : {X : Type 0} (f g : X → ℕ) → ((x : X) → f x ≡ g x) → (xs : List X) → total_by f xs ≡ total_by g xs
total_by-same f g same [] = refl
total_by-same f g same (x ∷ xs) = ap (λ n. n + total_by f xs) (same x) ∙ ap (λ n. g x + n) (total_by-same f g same xs)

pub total_by-zero : {X : Type 0} (f : X → ℕ) → ((x : X) → f x ≡ 0) → (xs : List X) → total_by f xs ≡ 0
total_by-zero f none [] = refl
total_by-zero f none (x ∷ xs) = omega (arith, none x, total_by-zero f none xs)

pub total_by-append : {X : Type 0} (f : X → ℕ) (xs ys : List X) → total_by f (xs ++ ys) ≡ total_by f xs + total_by f ys
total_by-append f [] ys = omega arith
total_by-append f (x ∷ xs) ys = omega (arith, total_by-append f xs ys)

pub total_by-flat_map : {X Y : Type 0} (f : Y → ℕ) (g : X → List Y) (xs : List X) →
    total_by f (flat_map g xs) ≡ total_by (λ x. total_by f (g x)) xs
total_by-flat_map f g [] = refl
total_by-flat_map f g (x ∷ xs) =
    total_by-append f (g x) (flat_map g xs) ∙ ap (λ n. total_by f (g x) + n) (total_by-flat_map f g xs)

-- a number times each
pub total_by-times : {X : Type 0} (n : ℕ) (f : X → ℕ) (xs : List X) → total_by (λ x. n * f x) xs ≡ n * total_by f xs
total_by-times n f [] = omega arith
total_by-times n f (x ∷ xs) = omega (arith, total_by-times n f xs)

-- over what a list of options has
pub total_by-filter_map : {X L : Type 0} (f : L → ℕ) (link : X → Option L) (n : X → ℕ)
    → ((x : X) (rest : List L) → total_by f (cons_option (link x) rest) ≡ n x + total_by f rest) → (xs : List X)
    → total_by f (filter_map link xs) ≡ total_by n xs
total_by-filter_map f link n one [] = refl
total_by-filter_map f link n one (x ∷ xs) =
    one x (filter_map link xs) ∙ ap (λ rest. n x + rest) (total_by-filter_map f link n one xs)

-- it is the library's sum
pub sum_is_total : {X : Type 0} (f : X → ℕ) (xs : List X) → sum_by f xs ≡ total_by f xs
sum_is_total f [] = refl
sum_is_total f (x ∷ xs) = sum_by-cons f x xs ∙ ap (λ n. f x + n) (sum_is_total f xs)

-- capping a part of a sum or a factor of a product changes nothing that is kept
pub capped_product : (m w : ℕ) → capped (capped m * w) ≡ capped (m * w)
capped_product m w = alike_times (capped m) m w (omega arith)

pub capped_sum : (m n : ℕ) → capped (capped m + capped n) ≡ capped (m + n)
capped_sum m n = omega arith

-- sums of products, whose first factors are added
merged_first : (f g w s t : ℕ) → capped s ≡ capped t → capped (capped (f + g) * w + s) ≡ capped ((f * w + g * w) + t)
merged_first f g w s t e = omega (arith, capped_product (f + g) w, e)

pub total_by-merged : {X : Type 0} (f g w : X → ℕ) (xs : List X) →
    capped (total_by (λ x. capped (f x + g x) * w x) xs) ≡ capped (total_by (λ x. f x * w x) xs + total_by (λ x. g x * w x) xs)
total_by-merged f g w [] = refl
total_by-merged f g w (x ∷ xs) =
    merged_first (f x) (g x) (w x) (total_by (λ y. capped (f y + g y) * w y) xs)
    (total_by (λ y. f y * w y) xs + total_by (λ y. g y * w y) xs) (total_by-merged f g w xs)
    ∙ ap capped (let swapped : (f x * w x + g x * w x) + (total_by (λ y. f y * w y) xs + total_by (λ y. g y * w y) xs)
    ≡ (f x * w x + total_by (λ y. f y * w y) xs) + (g x * w x + total_by (λ y. g y * w y) xs) = omega arith in swapped)
