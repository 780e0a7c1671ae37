use Rattle.std.proofs.Common.{pos, ap, arith, rules, ◌∙◌}
use Rattle.std.proofs.lemmas.Int.{ints, to_z-of_z}
use Rattle.std.proofs.lemmas.List.{at_drop_more}
use Rattle.dv_bag.specs.Bag.{sum_of, total}
use Rattle.dv_bag.proofs.Pairs.{value_at}
use mir.Syntax.{w64}
use mir.Val.{SFits}
use Rattle.dv_bag.proofs.bag.Bag.sum.Goals as goal

pub overflow_add-sum : goal.overflow_add-sum
overflow_add-sum c =
    let items = c.as_slice-pair-items.result.now in
    let rest = at_drop_more total items c.loop-pair.pair-index (pos 0, 0) (omega arith) in
    let few = ap total (c.as_slice-pair-items.ensures ∙ c.self.view_is) in
    omega (arith, ints)

pub loop-pair-preserved : goal.loop-pair-preserved
loop-pair-preserved c =
    let items = c.as_slice-pair-items.result.now in
    let rest = at_drop_more total items c.loop-pair.pair-index (pos 0, 0) (omega arith) in
    let sums = at_drop_more sum_of items c.loop-pair.pair-index (pos 0, 0) (omega arith) in
    let few = ap total (c.as_slice-pair-items.ensures ∙ c.self.view_is) in
    let number : SFits w64 (value_at items c.loop-pair.pair-index) = search rules in
    let weighed = simp to_z-of_z at c.weight-sum.ensures.product in
    record { so_far = omega (arith, ints); low = omega (arith, ints); high = omega (arith, ints) }
