use Rattle.std.proofs.Common.{◌≡◌, IfOk, OnErr, sym, ap, subst, ◌∙◌}
use Rattle.std.proofs.lemmas.List.Elements.{All-weaker}
use Rattle.dv_bag.specs.Part.{nothing}
use Rattle.dv_record.specs.Told.{Handed, no_text}
use Rattle.dv_text.proofs.Taking.{OnErr-always}
use Rattle.dv_stream.specs.Endings.{HasRunInRounds}
use Rattle.dv_stream.specs.Written.{IsBegun, IsWrittenTo}
use Rattle.dv_stream.proofs.Writing.{not_begun}
use Rattle.dv_stream.proofs.rounds.stream_several.Goals as goal

pub returns-in_err-world-clause-err : goal.returns-in_err-world-clause-err
returns-in_err-world-clause-err g c =
    OnErr-always _ (not_begun (g.J.PlannedJob.means c.args.job) c.args.words.now (g.W.Write.contents c.args.writer.now))

pub run_processes-requires-clause-job : goal.run_processes-requires-clause-job
run_processes-requires-clause-job g c = c.requires.job ∙ ap g.J.PlannedJob.means (sym c.in_ok-world.ensures.job)

pub run_processes-requires-clause-kept : goal.run_processes-requires-clause-kept
run_processes-requires-clause-kept g c =
    All-weaker (λ p. g.K.Record.handed p.local.record ≡ no_text) (λ p. (g.K.Record.handed p.local.record).past ≡ nothing)
    (λ p same. ap (λ (h : Handed). h.past) same) c.in_ok-world.world.processes.items c.in_ok-world.ensures.handed

pub returns-clause-run : goal.returns-clause-run
returns-clause-run g c =
    let bounds = c.args.bounds in
    subst (λ j. IfOk c.run_processes.result (HasRunInRounds (g.J.PlannedJob.means j) bounds.capacity bounds.rounds))
    c.in_ok-world.ensures.job
    (c.run_processes.ensures.run bounds.capacity c.in_ok-world.ensures.fresh)

pub returns-clause-written : goal.returns-clause-written
returns-clause-written g c =
    let contents = g.W.Write.contents in
    subst (λ j. IfOk c.run_processes.result (λ r. IsWrittenTo (g.J.PlannedJob.means j) c.args.words.now
    (contents c.args.writer.now) (contents c.run_processes.new.writer) r.written)) c.in_ok-world.ensures.job c.run_processes.ensures.written

pub returns-clause-err : goal.returns-clause-err
returns-clause-err g c =
    let contents = g.W.Write.contents in
    subst (λ j. OnErr c.run_processes.result (IsBegun (g.J.PlannedJob.means j) c.args.words.now
    (contents c.args.writer.now) (contents c.run_processes.new.writer))) c.in_ok-world.ensures.job c.run_processes.ensures.err
