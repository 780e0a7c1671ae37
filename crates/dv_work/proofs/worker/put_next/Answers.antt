use Rattle.dv_work.specs.Seats.{HasEvents, IsNull}
use Rattle.dv_work.proofs.Keeping.{of_each_kind, only_nulls}
use Rattle.dv_work.proofs.worker.put_next.Goals as goal

pub returns-then-has_null-clause-events : goal.returns-then-has_null-clause-events
returns-then-has_null-clause-events g c =
    only_nulls g.P.LogicalProcess.state c.args.index c.args.seat.now (λ end at. (c.has_null.ensures end at).0 c.if-has_null.true)

pub returns-clause-nulls : goal.returns-clause-nulls
returns-clause-nulls g c = λ due.
    of_each_kind g.P.LogicalProcess.state IsNull c.args.index c.args.seat.now c.put.new.self c.put.ensures.kept

pub returns-clause-events : goal.returns-clause-events
returns-clause-events g c =
    of_each_kind g.P.LogicalProcess.state HasEvents c.args.index c.args.seat.now c.put.new.self c.put.ensures.kept
