use Rattle.std.proofs.Common.{ℕ, None, get_or-set_same, set, sym, subst, ◌∙◌}
use Rattle.dv_agenda.specs.Wheel.{IsFrom}
use Rattle.dv_agenda.proofs.Wheels.{kept_after}
use Rattle.dv_agenda.proofs.wheel.Wheel.exchange.Goals as goal

pub returns-clause-present : goal.returns-clause-present
returns-clause-present c = c.put.ensures.more.present ∙ c.leave.ensures.present

pub returns-clause-kept : goal.returns-clause-kept
returns-clause-kept c = λ ws lt at from kept.
    kept_after ws c.args.self.now c.leave.new.self c.put.new.self c.args.index c.args.wait kept lt c.leave.ensures.present
    c.leave.ensures.span (subst (λ (n : ℕ). IsFrom n c.args.wait) (sym c.leave.ensures.present) from) c.put.ensures.room
    c.leave.ensures.others c.put.ensures.more c.put.ensures.there
    (c.put.ensures.held (set ws c.args.index c.args.wait) (get_or-set_same ws c.args.index c.args.wait None lt)
    (c.leave.ensures.held ws c.args.wait lt at kept.held))
