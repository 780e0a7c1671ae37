use Rattle.std.proofs.Common.{◌+◌}
use Rattle.dv_work.proofs.Making.{with_in}
use Rattle.dv_work.proofs.setup.add_in.Goals as goal

pub returns-clause-seat : goal.returns-clause-seat
returns-clause-seat g c =
    with_in g.N.OfJob.job g.P.LogicalProcess.state g.P.LogicalProcess.handed g.P.LogicalProcess.valid c.args.links.now c.args.seat.now
    (c.args.end.number + 1)
    c.args.end c.requires.seat c.requires.end _ c.in_ok-push.ensures.items
