use Rattle.dv_work.proofs.Sitting.{all_report}
use Rattle.dv_work.proofs.worker.rounds.Goals as goal

pub returns-then-is_err-clause-reports : goal.returns-then-is_err-clause-reports
returns-then-is_err-clause-reports g c =
    all_report g.N.OfJob.job g.P.LogicalProcess.state g.P.LogicalProcess.handed g.P.LogicalProcess.valid c.args.floor.now.links.now
    c.post_after.new.seats c.post_after.ensures.sits

pub returns-in-Done-clause-reports : goal.returns-in-Done-clause-reports
returns-in-Done-clause-reports g c =
    all_report g.N.OfJob.job g.P.LogicalProcess.state g.P.LogicalProcess.handed g.P.LogicalProcess.valid c.args.floor.now.links.now
    c.post_after.new.seats c.post_after.ensures.sits

pub wait_after-requires-clause-told : goal.wait_after-requires-clause-told
wait_after-requires-clause-told g c = λ still. c.post_after.ensures.told (c.in-Ok.ensures.told still)

pub returns-then-is_err-2-clause-reports : goal.returns-then-is_err-2-clause-reports
returns-then-is_err-2-clause-reports g c =
    all_report g.N.OfJob.job g.P.LogicalProcess.state g.P.LogicalProcess.handed g.P.LogicalProcess.valid c.args.floor.now.links.now
    c.wait_after.new.seats c.wait_after.ensures
