use Rattle.std.proofs.Common.{sym, subst}
use Rattle.std.specs.Prelude.{IfOk, OnErr}
use Rattle.dv_conservative.specs.World.{Job}
use Rattle.dv_text.proofs.Taking.{OnErr-always}
use Rattle.dv_work.specs.Crews.{IsCrewFor}
use Rattle.dv_stream.specs.Endings.{HasRunByWorkers}
use Rattle.dv_stream.specs.Written.{IsBegun, IsWrittenTo}
use Rattle.dv_stream.proofs.Writing.{not_begun}
use Rattle.dv_stream.proofs.workers.stream_crew.Goals as goal

pub returns-in_err-merger-clause-err : goal.returns-in_err-merger-clause-err
returns-in_err-merger-clause-err g c =
    OnErr-always _ (not_begun (g.J.PlannedJob.means c.args.job.now) c.args.words.now (g.W.Write.contents c.args.writer.now))

pub returns-in_err-signals-clause-err : goal.returns-in_err-signals-clause-err
returns-in_err-signals-clause-err g c =
    OnErr-always _ (not_begun (g.J.PlannedJob.means c.args.job.now) c.args.words.now (g.W.Write.contents c.args.writer.now))

pub run_and_write_rest-requires-clause-crew : goal.run_and_write_rest-requires-clause-crew
run_and_write_rest-requires-clause-crew g c κs _ =
    subst (λ (j : Job). IsCrewFor j g.P.LogicalProcess.state g.P.LogicalProcess.handed g.P.LogicalProcess.valid c.args.crew)
    (sym c.requires.job) c.requires.crew

pub returns-clause-run : goal.returns-clause-run
returns-clause-run g c =
    subst (λ (j : Job). IfOk c.run_and_write_rest.result (HasRunByWorkers j)) c.requires.job c.run_and_write_rest.ensures.run

pub returns-clause-written : goal.returns-clause-written
returns-clause-written g c =
    let contents = g.W.Write.contents in
    let old = contents c.args.writer.now in
    let new = contents c.run_and_write_rest.new.writer in
    subst (λ (j : Job). IfOk c.run_and_write_rest.result (λ w. IsWrittenTo j c.args.words.now old new w.ran.written)) c.requires.job
    (subst (λ t. IfOk c.run_and_write_rest.result (λ w. IsWrittenTo g.N.OfJob.job t old new w.ran.written)) c.in_ok-merger.ensures.tree
    c.run_and_write_rest.ensures.written)

pub returns-clause-err : goal.returns-clause-err
returns-clause-err g c =
    let contents = g.W.Write.contents in
    let old = contents c.args.writer.now in
    let new = contents c.run_and_write_rest.new.writer in
    subst (λ (j : Job). OnErr c.run_and_write_rest.result (IsBegun j c.args.words.now old new)) c.requires.job
    (subst (λ t. OnErr c.run_and_write_rest.result (IsBegun g.N.OfJob.job t old new)) c.in_ok-merger.ensures.tree
    c.run_and_write_rest.ensures.err)
