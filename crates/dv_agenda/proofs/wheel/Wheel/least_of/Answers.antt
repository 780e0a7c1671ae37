use Rattle.std.proofs.Common.{◌<◌, ◌≤◌, length, subst, sym, arith}
use Rattle.dv_agenda.specs.Wheel.{IsTold, least_at}
use Rattle.dv_agenda.specs.declared.least.Least.{Least}
use Rattle.dv_agenda.proofs.Leasts.{known_is}
use Rattle.dv_agenda.proofs.Wheels.{known_above}
use Rattle.dv_agenda.proofs.wheel.Wheel.least_of.Goals as goal

pub returns-in-Some-clause-above : goal.returns-in-Some-clause-above
returns-in-Some-clause-above c =
    let room : 641 ≤ length c.args.self.now.leasts.items = c.requires.kept.room.known in
    let lt : c.args.at < length c.args.self.now.leasts.items = omega (arith, c.requires.high) in
    known_above c.args.waits.now c.args.self.now.present c.args.at (least_at c.args.self.now.leasts.items c.args.at) c.in-Some.time
    (subst (λ (l : Least). IsTold l c.in-Some.time)
    (sym (known_is c.args.self.now.leasts.items c.args.at c.index.result.now lt c.index.ensures))
    (c.known.ensures c.in-Some.time c.in-Some.is))
    (c.requires.kept.held c.args.at)
