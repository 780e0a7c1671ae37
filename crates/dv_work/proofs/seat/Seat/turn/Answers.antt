use Rattle.dv_proc.specs.Midway.{meant_turned}
use Rattle.dv_work.proofs.Sitting.{turned_sits}
use Rattle.dv_work.proofs.seat.Seat.turn.Goals as goal

pub returns-clause-sits : goal.returns-clause-sits
returns-clause-sits g c =
    turned_sits g.N.OfJob.job g.P.LogicalProcess.state g.P.LogicalProcess.handed g.P.LogicalProcess.valid c.args.floor.now.links.now
    c.args.self.now
    c.requires c.turn.new.self c.turn.ensures.valid c.turn.ensures.handed c.after_a_turn-self.result (meant_turned c.in_ok-turned.turned)
    c.in_ok-turned.ensures.ok
