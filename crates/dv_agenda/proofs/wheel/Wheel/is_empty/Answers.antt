use Rattle.std.proofs.Common.{◌≡◌, ◌+◌, ◌*◌, ◌/◌, arith}
use Rattle.std.proofs.lemmas.Bool.{eqb-true}
use Rattle.dv_agenda.proofs.Wheels.{aligned}
use Rattle.dv_agenda.proofs.wheel.Wheel.is_empty.Goals as goal

pub returns : goal.returns
returns c = λ yes p lt.
    let row : c.args.slot * c.args.self.now.span ≡ 64 * (c.args.slot * (c.args.self.now.span / 64)) =
    aligned c.args.slot c.args.self.now.span c.requires.room.whole in
    let whole : c.args.self.now.span ≡ 64 * (c.args.self.now.span / 64) = c.requires.room.whole in
    let end : c.next_word.result ≡ c.args.slot * (c.args.self.now.span / 64) + c.args.self.now.span / 64 =
    eqb-true c.next_word.result _ yes in
    c.next_word.ensures.none (c.args.slot * c.args.self.now.span + p) (omega arith) (omega arith)
