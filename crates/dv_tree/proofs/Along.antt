-- What couplings carry: nothing from an empty source.
use Rattle.std.proofs.Common.{◌≡◌, ℕ, zero, suc, List, [], ◌∷◌, get_or, refl, ap, sym, ◌∙◌, arith}
use Rattle.std.proofs.Math.ListN.{set}
use Rattle.std.proofs.lemmas.List.{set-get_or}
use Rattle.dv_bag.specs.Bag.{Counts, bag_at, capped, with_copies, union, total, total_of_all, size_of_all}
use Rattle.dv_tree.specs.Routing.{Arrived, joined_at, with_values, along}
use Rattle.dv_tree.specs.declared.couplings.Target.{Target}
use Rattle.dv_tree.specs.declared.couplings.Target.TheVariants.{Own, OfPart}
use Rattle.dv_tree.specs.declared.couplings.Coupling.{Coupling}

-- no copies of values
no_copies : (a : Counts) (n : ℕ) (v : _) → n ≡ 0 → with_copies v n a ≡ a
no_copies a zero v e = refl
no_copies a (suc n) v e = absurd (omega (arith, e))

pub union_none : (a b : Counts) → total b ≡ 0 → union a b ≡ a
union_none a [] none = refl
union_none a (p ∷ ps) none =
    ap (λ x. union x ps) (no_copies a p.1 p.0 (omega (arith, none))) ∙ union_none a ps (omega (arith, none))

joined_none : (port : ℕ) (more : Counts) (bags : List Counts) → total more ≡ 0 → joined_at port more bags ≡ bags
joined_none port more bags none = ap (set bags port) (union_none (bag_at bags port) more none) ∙ set-get_or bags port []

pub with_values_none : (t : Target) (more : Counts) (a : Arrived) → total more ≡ 0 → with_values t more a ≡ a
with_values_none (Own port) more a none = ap (λ own. record { own = own; parts = a.parts }) (joined_none port more a.own none)
with_values_none (OfPart part port) more a none =
    ap (λ parts. record { own = a.own; parts = parts })
    (ap (set a.parts part) (joined_none port more (get_or a.parts part []) none) ∙ set-get_or a.parts part [])

-- from a source without values
pub along_none : (couplings : List Coupling) (bags : List Counts) (a : Arrived) → ((port : ℕ) → total (bag_at bags port) ≡ 0) →
    along couplings bags a ≡ a
along_none [] bags a none = refl
along_none (c ∷ couplings) bags a none =
    ap (along couplings bags) (with_values_none c.target (bag_at bags c.port) a (none c.port)) ∙ along_none couplings bags a none

none_at : (bags : List Counts) → total_of_all bags ≡ 0 → (port : ℕ) → total (bag_at bags port) ≡ 0
none_at [] none port = refl
none_at (b ∷ bags) none zero = omega (arith, none)
none_at (b ∷ bags) none (suc port) = none_at bags (omega (arith, none)) port

none_from_capped : (n : ℕ) → capped n ≡ 0 → n ≡ 0
none_from_capped n none = omega (arith, none)

-- where the size of all bags is 0
pub along_empty : (couplings : List Coupling) (bags : List Counts) (a : Arrived) → size_of_all bags ≡ 0 → a ≡ along couplings bags a
along_empty couplings bags a none = sym (along_none couplings bags a (none_at bags (none_from_capped (total_of_all bags) none)))
