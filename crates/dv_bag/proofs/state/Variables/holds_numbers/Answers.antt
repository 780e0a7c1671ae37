use Rattle.std.proofs.Common.{arith, subst, ◌∙◌}
use Rattle.std.proofs.lemmas.List.{take_all}
use Rattle.dv_bag.specs.Numbers.{HoldsNumbers, IsOfNumbers}
use Rattle.dv_bag.proofs.NumbersHeld.{one_more_datum}
use Rattle.dv_bag.proofs.state.Variables.holds_numbers.Goals as goal

pub loop-datum-preserved : goal.loop-datum-preserved
loop-datum-preserved c =
    let items = c.as_slice-datum-items.result.now in
    let d = c.datum-item.result in
    let number = subst IsOfNumbers c.datum-item.is c.holds_numbers.ensures in
    one_more_datum items c.loop-datum.datum-index d (omega arith) number c.loop-datum.invariant

pub returns : goal.returns
returns c =
    let items = c.as_slice-datum-items.result.now in
    let all = subst HoldsNumbers (take_all c.loop-datum.datum-index items (omega arith)) c.loop-datum.invariant in
    subst HoldsNumbers (c.as_slice-datum-items.ensures.value ∙ c.self.view_is) all
