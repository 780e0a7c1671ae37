use Rattle.dv_work.proofs.Making.{with_out}
use Rattle.dv_work.proofs.setup.add_out.Goals as goal

pub returns-clause-seat : goal.returns-clause-seat
returns-clause-seat g c =
    with_out g.N.OfJob.job g.P.LogicalProcess.state g.P.LogicalProcess.handed g.P.LogicalProcess.valid c.args.links.now c.args.seat.now
    c.args.out.number
    c.args.out c.requires.seat c.requires.out _ c.in_ok-push.ensures.items
