use Rattle.std.proofs.Common.{◌≡◌, ◌<◌, ◌≤◌, length, subst, sym, arith}
use Rattle.dv_agenda.specs.Wheel.{IsTold}
use Rattle.dv_agenda.specs.declared.least.Least.{Least}
use Rattle.dv_agenda.proofs.Leasts.{known_is}
use Rattle.dv_agenda.proofs.Wheels.{known_lowest, none_used}
use Rattle.dv_agenda.proofs.wheel.Wheel.at_hand.Goals as goal

pub returns-then-at-eq641 : goal.returns-then-at-eq641
returns-then-at-eq641 c = λ waits kept.
    let end : c.next-at.result ≡ 641 = c.if-at-eq641.true in
    c.found.ensures.first waits
    (none_used waits c.args.self.now kept (λ p lt. c.next-at.ensures.none p (omega arith) (omega arith)))

pub returns : goal.returns
returns c = λ waits kept.
    let high : c.next-at.result ≤ 641 = c.next-at.ensures.high in
    let room : 641 ≤ length c.args.self.now.leasts.items = c.requires.known in
    let lt : c.next-at.result < length c.args.self.now.leasts.items = omega (arith, c.if-at-eq641.false) in
    c.if_found.ensures waits (λ t is.
    known_lowest waits c.args.self.now c.next-at.result t kept (λ p less. c.next-at.ensures.none p (omega arith) less)
    (subst (λ (l : Least). IsTold l t)
    (sym (known_is c.args.self.now.leasts.items c.next-at.result c.index.result.now lt c.index.ensures))
    (c.known.ensures t is)))
