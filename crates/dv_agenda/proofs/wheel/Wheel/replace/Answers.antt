use Rattle.std.proofs.Common.{None, get_or-set_same, set, refl}
use Rattle.dv_agenda.proofs.Wheels.{kept_after, kept_anew}
use Rattle.dv_agenda.proofs.wheel.Wheel.replace.Goals as goal

pub returns-then-is_from-clause-kept : goal.returns-then-is_from-clause-kept
returns-then-is_from-clause-kept c =
    kept_after c.args.waits.now c.args.self.now c.leave.new.self c.put.new.self c.args.index c.args.wait c.requires.kept c.requires.index
    c.leave.ensures.present c.leave.ensures.span (c.is_from.ensures c.if-is_from.true) c.put.ensures.room c.leave.ensures.others
    c.put.ensures.more c.put.ensures.there
    (c.put.ensures.held (set c.args.waits.now c.args.index c.args.wait)
    (get_or-set_same c.args.waits.now c.args.index c.args.wait None c.requires.index)
    (c.leave.ensures.held c.args.waits.now c.args.wait c.requires.index refl c.requires.kept.held))

pub returns-clause-kept : goal.returns-clause-kept
returns-clause-kept c =
    kept_anew c.args.waits.now c.args.self.now c.leave.new.self c.put_anew.new.self c.args.index c.args.wait c.requires.kept
    c.requires.index c.leave.ensures.present c.leave.ensures.span c.put_anew.ensures.low c.put_anew.ensures.span c.put_anew.ensures.from
    c.put_anew.ensures.room c.put_anew.ensures.there c.put_anew.ensures.held
