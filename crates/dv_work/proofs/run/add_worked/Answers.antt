use Rattle.std.proofs.lemmas.List.Elements.{All-same, All-push}
use Rattle.dv_work.specs.declared.worker.Worked.{Worked}
use Rattle.dv_work.specs.Workers.{Reported}
use Rattle.dv_work.proofs.run.add_worked.Goals as goal

pub returns-in_err-push : goal.returns-in_err-push
returns-in_err-push g c =
    let P : Worked g.row.P.Denot g.row.C.Denot → Type 0
    = λ w. Reported g.N.OfJob.job g.P.LogicalProcess.state g.P.LogicalProcess.handed g.P.LogicalProcess.valid w in
    All-same P c.push.new.self.items c.args.all.now.items c.in_err-push.ensures.items c.requires.all

pub returns : goal.returns
returns g c =
    let P : Worked g.row.P.Denot g.row.C.Denot → Type 0
    = λ w. Reported g.N.OfJob.job g.P.LogicalProcess.state g.P.LogicalProcess.handed g.P.LogicalProcess.valid w in
    All-same P c.push.new.self.items _ c.in_ok-push.ensures.items
    (All-push P c.args.all.now.items c.args.worked c.requires.all c.requires.worked)
