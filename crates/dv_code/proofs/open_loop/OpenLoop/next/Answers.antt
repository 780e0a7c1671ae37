use Rattle.std.proofs.Common.{◌≡◌, ◌+◌, ◌-◌, drop, replicate, ◌++◌, ℤ, sym, ap, arith, rules}
use Rattle.std.proofs.lemmas.Int.{to_z-of_z}
use Rattle.dv_bag.specs.Bag.{values_of}
use Rattle.dv_code.specs.Machine.{Turn}
use Rattle.dv_code.specs.Turns.{walked_bag}
use Rattle.dv_code.proofs.Turning.{next_value, no_value}
use mir.Syntax.{w64}
use mir.Val.{SFits}
use Rattle.dv_code.proofs.open_loop.OpenLoop.next.Goals as goal

pub returns-in_default : goal.returns-in_default
returns-in_default c =
    let l = c.args.self.now in
    let over : l.more ≡ 0 = omega (arith, c.if-self-gt0.false) in
    no_value (walked_bag c.args.arrivals.now l.walk) l.begun l.more l.item over _ (sym c.in_default.ensures.pair)

pub returns : goal.returns
returns c =
    let l = c.args.self.now in
    let bag = walked_bag c.args.arrivals.now l.walk in
    let over : l.more ≡ 0 = omega (arith, c.if-self-gt0.false) in
    let number : SFits w64 c.in-Some.item = search rules in
    let turn : ℤ → Turn = λ v. record { item = v; rest = replicate (c.in-Some.copies - 1) v ++ values_of (drop (l.begun + 1) bag) } in
    next_value bag l.begun l.more l.item over c.in-Some.item c.in-Some.copies _ c.in-Some.ensures.some.0 (sym c.in-Some.ensures.pair)
    (ap turn (to_z-of_z w64 c.in-Some.item number))
