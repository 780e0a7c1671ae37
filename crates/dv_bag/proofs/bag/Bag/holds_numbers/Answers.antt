use Rattle.std.proofs.Common.{arith, rules, subst, ◌∙◌}
use Rattle.std.proofs.lemmas.List.{take_all}
use Rattle.dv_bag.specs.Numbers.{IsBagOfNumbers}
use Rattle.dv_bag.proofs.NumbersHeld.{one_more_value}
use Rattle.dv_bag.proofs.Pairs.{value_at}
use mir.Syntax.{w64}
use mir.Val.{SFits}
use Rattle.dv_bag.proofs.bag.Bag.holds_numbers.Goals as goal

pub loop-pair-preserved : goal.loop-pair-preserved
loop-pair-preserved c =
    let items = c.as_slice-pair-items.result.now in
    let index = c.loop-pair.pair-index in
    let number : SFits w64 (value_at items index) = search rules in
    one_more_value items index (omega arith) number c.loop-pair.invariant

pub returns : goal.returns
returns c =
    let items = c.as_slice-pair-items.result.now in
    let all = subst IsBagOfNumbers (take_all c.loop-pair.pair-index items (omega arith)) c.loop-pair.invariant in
    subst IsBagOfNumbers (c.as_slice-pair-items.ensures ∙ c.self.view_is) all
