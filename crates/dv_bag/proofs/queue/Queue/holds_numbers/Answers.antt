use Rattle.std.proofs.Common.{◌≡◌, ◌<◌, ◌≤◌, All, IsTrue, List, ℤ, ap, arith, length, rules, subst}
use Rattle.std.proofs.lemmas.List.{take_all}
use Rattle.dv_bag.specs.Bag.{is_number}
use Rattle.dv_bag.proofs.NumbersHeld.{one_more_of_queue}
use mir.Syntax.{w64}
use mir.Val.{SFits}
use Rattle.dv_bag.proofs.queue.Queue.holds_numbers.Goals as goal

pub loop-number-preserved : goal.loop-number-preserved
loop-number-preserved c =
    let items = c.self.inside.values.items in
    let long : length items ≡ length c.args.self.now = ap length c.self.view_is in
    let within : c.loop-number.number < length items = omega (arith, long, c.len-number-end.ensures, c.loop-number-test.true) in
    let fits : SFits w64 c.index-value.result.now = search rules in
    one_more_of_queue items c.loop-number.number c.index-value.result.now within c.index-value.ensures fits c.loop-number.invariant

pub returns : goal.returns
returns c =
    let items = c.self.inside.values.items in
    let long : length items ≡ length c.args.self.now = ap length c.self.view_is in
    let past : length items ≤ c.loop-number.number = omega (arith, long, c.len-number-end.ensures, c.loop-number-test.false) in
    let whole = take_all c.loop-number.number items past in
    let all = subst (λ (q : List ℤ). All (λ v. IsTrue (is_number v)) q) whole c.loop-number.invariant in
    subst (λ (q : List ℤ). All (λ v. IsTrue (is_number v)) q) c.self.view_is all
