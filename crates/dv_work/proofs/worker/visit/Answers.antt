use Rattle.std.proofs.Common.{◌∙◌}
use Rattle.dv_work.specs.Seats.{HasEvents, IsNull}
use Rattle.dv_work.proofs.Keeping.{kept_since}
use Rattle.dv_work.proofs.worker.visit.Goals as goal

pub returns-clause-nulls : goal.returns-clause-nulls
returns-clause-nulls g c = λ tells.
    kept_since g.P.LogicalProcess.state IsNull c.args.seat.now c.turn_if_near.new.seat c.put_all-put.new.seat
    (c.turn_if_near.ensures.outs ∙ c.take_all.ensures.outs) (c.put_all-put.ensures.nulls (c.nulls_are_due.ensures.tells tells))

pub returns-clause-events : goal.returns-clause-events
returns-clause-events g c =
    kept_since g.P.LogicalProcess.state HasEvents c.args.seat.now c.turn_if_near.new.seat c.put_all-put.new.seat
    (c.turn_if_near.ensures.outs ∙ c.take_all.ensures.outs) c.put_all-put.ensures.events
