use Rattle.std.proofs.Common.{subst}
use Rattle.std.specs.Prelude.{IfSome}
use Rattle.std.specs.declared.alloc.Global.{Global}
use Rattle.std.specs.declared.vec.Vec.{Vec}
use Rattle.std.proofs.lemmas.List.Elements.{All-pop}
use Rattle.dv_work.specs.Workers.{Seated}
use Rattle.dv_work.specs.declared.seat.Seat.{Seat}
use Rattle.dv_work.proofs.run.last_seats.Goals as goal

pub returns-clause-one : goal.returns-clause-one
returns-clause-one g c =
    let S : Vec (Seat g.row.P.Denot) Global → Type 0
    = λ v. Seated g.N.OfJob.job g.P.LogicalProcess.state g.P.LogicalProcess.handed g.P.LogicalProcess.valid c.args.links.now v in
    subst (λ o. IfSome o S) c.in_ok-seats.was
    (All-pop S c.args.by_worker.now.items c.pop-2.new.self.items c.pop-2.result c.pop-2.ensures.items c.requires).1

pub returns-clause-rest : goal.returns-clause-rest
returns-clause-rest g c =
    let S : Vec (Seat g.row.P.Denot) Global → Type 0
    = λ v. Seated g.N.OfJob.job g.P.LogicalProcess.state g.P.LogicalProcess.handed g.P.LogicalProcess.valid c.args.links.now v in
    (All-pop S c.args.by_worker.now.items c.pop-2.new.self.items c.pop-2.result c.pop-2.ensures.items c.requires).0
