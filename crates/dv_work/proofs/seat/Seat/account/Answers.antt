use Rattle.dv_work.proofs.Sitting.{reports}
use Rattle.dv_work.proofs.seat.Seat.account.Goals as goal

pub returns : goal.returns
returns g c =
    reports g.N.OfJob.job g.P.LogicalProcess.state g.P.LogicalProcess.handed g.P.LogicalProcess.valid c.args.floor.now.links.now
    c.args.self.now c.requires
