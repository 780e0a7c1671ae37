use Rattle.std.proofs.lemmas.List.Elements.{All-same, All-push}
use Rattle.dv_work.specs.Seats.{Sits}
use Rattle.dv_work.specs.declared.seat.Seat.{Seat}
use Rattle.dv_work.proofs.setup.add_seat.Goals as goal

pub returns-clause-seats : goal.returns-clause-seats
returns-clause-seats g c =
    let P : Seat g.row.P.Denot → Type 0
    = λ s. Sits g.N.OfJob.job g.P.LogicalProcess.state g.P.LogicalProcess.handed g.P.LogicalProcess.valid c.args.links.now s in
    record {
      sits = All-same P c.push.new.self.items _ c.in_ok-push.ensures.items
          (All-push P c.args.seats.now.items c.args.seat c.requires.seats.sits c.requires.seat);
    }
