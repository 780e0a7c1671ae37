-- Steps of loops that carry.
use Rattle.std.proofs.Common.{◌≡◌, ℕ, suc, ◌+◌, ◌<◌, List, [], ◌∷◌, ◌++◌, length, get_or, drop, refl, sym, ap, ◌∙◌, add-one, arith}
use Rattle.std.proofs.lemmas.List.{append_assoc, map-append}
use Rattle.std.proofs.Math.Seq.{drop-cons}
use Rattle.dv_conservative.specs.Links.{Delivery as Meant}
use Rattle.dv_share.specs.Links.{deliveries_of, delivery_of}
use Rattle.dv_share.specs.declared.link.Delivery.{Delivery}

pub drop_next : {X : Type 0} (xs : List X) (i : ℕ) (x : X) → i < length xs → x ≡ get_or xs i x → drop i xs ≡ x ∷ drop (i + 1) xs
drop_next {X} xs i x lt is =
    drop-cons xs i x lt ∙ ap (λ (y : X). y ∷ drop (suc i) xs) (sym is) ∙ ap (λ (n : ℕ). x ∷ drop n xs) (sym (add-one i))

pub carry_more : (new old : List Delivery) (ds rest all : List Meant) → deliveries_of new ≡ deliveries_of old ++ ds
    → deliveries_of old ++ (ds ++ rest) ≡ all →
    deliveries_of new ++ rest ≡ all
carry_more new old ds rest all more so_far = ap (λ (es : List Meant). es ++ rest) more ∙ append_assoc (deliveries_of old) ds rest ∙ so_far

pub pushed : (new old : List Delivery) (d : Delivery) → new ≡ old ++ d ∷ [] → deliveries_of new ≡ deliveries_of old ++ delivery_of d ∷ []
pushed new old d more = ap deliveries_of more ∙ map-append delivery_of old (d ∷ [])

pub drop_at : {X : Type 0} (xs : List X) (i : ℕ) (d : X) → i < length xs → drop i xs ≡ get_or xs i d ∷ drop (i + 1) xs
drop_at {X} xs i d lt = drop-cons xs i d lt ∙ ap (λ (n : ℕ). get_or xs i d ∷ drop n xs) (sym (add-one i))

-- a list of one item
pub only_one : {X : Type 0} (xs : List X) (d : X) → length xs ≡ 1 → xs ≡ get_or xs 0 d ∷ []
only_one [] d one = absurd (omega (arith, one))
only_one (x ∷ []) d one = refl
only_one (x ∷ y ∷ xs) d one = absurd (omega (arith, one))
