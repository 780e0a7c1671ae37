use Rattle.std.proofs.Common.{◌≡◌, ◌≤◌, Some, length, arith}
use Rattle.dv_agenda.specs.Agendas.{IsKept}
use Rattle.dv_agenda.specs.Waits.{without}
use Rattle.dv_agenda.proofs.Hands.{first_hand, length-without}
use Rattle.dv_agenda.proofs.Wheels.{kept_all}
use Rattle.dv_agenda.proofs.wheel.Wheel.take_back.Goals as goal

pub put_anew-requires-clause-room : goal.put_anew-requires-clause-room
put_anew-requires-clause-room c = (c.requires.rest (omega (arith, c.if-hand-gt0.true))).room

pub put_anew-requires-clause-fits : goal.put_anew-requires-clause-fits
put_anew-requires-clause-fits c =
    let rest : IsKept (without c.args.hand.time c.args.waits.now) c.args.self.now = c.requires.rest (omega (arith, c.if-hand-gt0.true)) in
    let fits : length (without c.args.hand.time c.args.waits.now) ≤ c.args.self.now.span = rest.fits in
    let size : length (without c.args.hand.time c.args.waits.now) ≡ length c.args.waits.now =
    length-without c.args.hand.time c.args.waits.now in
    omega arith

pub returns-then-hand-gt0 : goal.returns-then-hand-gt0
returns-then-hand-gt0 c =
    let rest : IsKept (without c.args.hand.time c.args.waits.now) c.args.self.now = c.requires.rest (omega (arith, c.if-hand-gt0.true)) in
    let fits : length (without c.args.hand.time c.args.waits.now) ≤ c.args.self.now.span = rest.fits in
    let size : length (without c.args.hand.time c.args.waits.now) ≡ length c.args.waits.now =
    length-without c.args.hand.time c.args.waits.now in
    let span : c.put_anew.new.self.span ≡ c.args.self.now.span = c.put_anew.ensures.span in
    kept_all c.args.waits.now c.put_anew.new.self (Some c.args.hand.time)
    (first_hand c.args.waits.now c.args.self.now c.args.first c.args.hand c.requires (omega (arith, c.if-hand-gt0.true)))
    c.put_anew.ensures.room (omega arith) c.put_anew.ensures.from c.put_anew.ensures.there c.put_anew.ensures.held

pub returns-else-hand-gt0 : goal.returns-else-hand-gt0
returns-else-hand-gt0 c = c.requires.all (omega (arith, c.if-hand-gt0.false))
