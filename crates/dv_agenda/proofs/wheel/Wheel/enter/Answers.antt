use Rattle.std.proofs.Common.{None, get_or-set_same, refl, set}
use Rattle.dv_agenda.specs.Wheel.{least_at}
use Rattle.dv_agenda.proofs.Leasts.{held_none}
use Rattle.dv_agenda.proofs.Wheels.{kept_after}
use Rattle.dv_agenda.proofs.wheel.Wheel.enter.Goals as goal

pub returns-clause-kept : goal.returns-clause-kept
returns-clause-kept c = λ ws lt none from kept.
    kept_after ws c.args.self.now c.args.self.now c.put.new.self c.args.index c.args.wait kept lt refl refl from c.put.ensures.room
    (λ p w less ne h. h) c.put.ensures.more c.put.ensures.there
    (c.put.ensures.held (set ws c.args.index c.args.wait) (get_or-set_same ws c.args.index c.args.wait None lt)
    (λ s. held_none ws c.args.self.now.present s c.args.index c.args.wait (least_at c.args.self.now.leasts.items s) lt none (kept.held s)))
