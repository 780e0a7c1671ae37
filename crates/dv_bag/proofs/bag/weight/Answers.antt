use Rattle.std.proofs.Common.{◌*◌, ◌^◌, ℤ, pos, neg_ℤ, ◌≤ℤ◌, sym, ◌∙◌, subst}
use Rattle.std.proofs.lemmas.Int.{to_z-of_z}
use Rattle.dv_bag.proofs.Weights.{weight_is, weight_within}
use Rattle.dv_bag.proofs.bag.weight.Goals as goal

pub returns-clause-product : goal.returns-clause-product
returns-clause-product c =
    weight_is c.args.value c.args.copies _ _ c.ranges.value c.ranges.copies.fits c.from.ensures
    (c.from-2.ensures ∙ to_z-of_z _ _ c.ranges.value)

pub returns-clause-low : goal.returns-clause-low
returns-clause-low c =
    subst (λ (z : ℤ). neg_ℤ (pos (2 ^ 63 * c.args.copies)) ≤ℤ z) (sym (returns-clause-product c))
    (weight_within c.args.value c.args.copies c.ranges.value).0

pub returns-clause-high : goal.returns-clause-high
returns-clause-high c =
    subst (λ (z : ℤ). z ≤ℤ pos (2 ^ 63 * c.args.copies)) (sym (returns-clause-product c))
    (weight_within c.args.value c.args.copies c.ranges.value).1
