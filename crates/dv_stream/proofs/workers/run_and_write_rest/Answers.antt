use Rattle.std.proofs.Common.{◌≤◌, slice_index_or, sym, subst}
use Rattle.std.specs.Prelude.{OnErr}
use Rattle.std.proofs.lemmas.Option.{slice_get-get_or}
use Rattle.dv_time.specs.Time.{end_of, rank}
use Rattle.dv_text.proofs.Taking.{OnErr-always}
use Rattle.dv_stream.specs.Written.{Falters, GoesOn, IsBegun, IsWrittenTo}
use Rattle.dv_work.specs.Reached.{AreReached}
use Rattle.dv_stream.proofs.Writing.{begun_from, begun_to, of_ok, written_further}
use Rattle.dv_stream.proofs.workers.run_and_write_rest.Goals as goal

pub returns-in_err-written-clause-err : goal.returns-in_err-written-clause-err
returns-in_err-written-clause-err g c =
    let contents = g.W.Write.contents in
    OnErr-always _ (subst (λ r. OnErr r (IsBegun g.N.OfJob.job c.args.merger.now.lines (contents c.args.writer.now)
    (contents c.run_and_write-written.new.writer))) c.in_err-written.was c.run_and_write-written.ensures.err)

pub returns-in_err-rest-clause-err : goal.returns-in_err-rest-clause-err
returns-in_err-rest-clause-err g c =
    let contents = g.W.Write.contents in
    let job = g.N.OfJob.job in
    let tree = c.args.merger.now.lines in
    let old = contents c.args.writer.now in
    let mid = contents c.run_and_write-written.new.writer in
    let w = c.in_ok-written.written in
    OnErr-always _ (begun_to job tree old mid w
    (of_ok (IsWrittenTo job tree old mid) _ w c.in_ok-written.was c.run_and_write-written.ensures.written)
    (of_ok (λ v. rank job.limit v.mark ≤ end_of job.limit job.horizon) _ w c.in_ok-written.was c.run_and_write-written.ensures.within))

pub write_rest-requires-clause-rest : goal.write_rest-requires-clause-rest
write_rest-requires-clause-rest g c =
    let r = c.in_ok-rest.field-0 in
    let report = of_ok (λ l. AreReached g.N.OfJob.job l.rest.items) _ r c.in_ok-rest.was c.run_and_write-written.ensures.report in
    λ k d lt. report.each k (slice_index_or r.rest.items k d) (slice_get-get_or r.rest.items k d lt)

pub write_rest-requires-clause-of_run : goal.write_rest-requires-clause-of_run
write_rest-requires-clause-of_run g c =
    let contents = g.W.Write.contents in
    (of_ok (IsWrittenTo g.N.OfJob.job c.args.merger.now.lines (contents c.args.writer.now) (contents c.run_and_write-written.new.writer)) _
    c.in_ok-written.written c.in_ok-written.was c.run_and_write-written.ensures.written).of_run

pub write_rest-requires-clause-within : goal.write_rest-requires-clause-within
write_rest-requires-clause-within g c =
    of_ok (λ v. rank g.N.OfJob.job.limit v.mark ≤ end_of g.N.OfJob.job.limit g.N.OfJob.job.horizon) _ c.in_ok-written.written
    c.in_ok-written.was c.run_and_write-written.ensures.within

pub returns-in_err-written-2-clause-err : goal.returns-in_err-written-2-clause-err
returns-in_err-written-2-clause-err g c =
    let contents = g.W.Write.contents in
    let job = g.N.OfJob.job in
    let tree = c.args.merger.now.lines in
    let old = contents c.args.writer.now in
    let mid = contents c.run_and_write-written.new.writer in
    let new = contents c.write_rest.new.writer in
    let w = c.in_ok-written.written in
    let written = of_ok (IsWrittenTo job tree old mid) _ w c.in_ok-written.was c.run_and_write-written.ensures.written in
    OnErr-always _ (begun_from job tree c.a_trace_is_its_pieces.ensures.lines {a = old} {b = mid} {c = new} w written
    (subst (λ t. Falters job t mid new w) c.run_and_write-written.ensures.tree c.in_err-written-2.ensures.err))

pub returns-in_err-ran-clause-err : goal.returns-in_err-ran-clause-err
returns-in_err-ran-clause-err g c =
    let contents = g.W.Write.contents in
    let job = g.N.OfJob.job in
    let tree = c.args.merger.now.lines in
    let old = contents c.args.writer.now in
    let mid = contents c.run_and_write-written.new.writer in
    let new = contents c.write_rest.new.writer in
    let w = c.in_ok-written.written in
    let next = c.in_ok-written-2.written in
    let written = of_ok (IsWrittenTo job tree old mid) _ w c.in_ok-written.was c.run_and_write-written.ensures.written in
    let more = written_further job tree c.a_trace_is_its_pieces.ensures.lines {a = old} {b = mid} {c = new} w written next
    (subst (λ t. GoesOn job t mid new w next) c.run_and_write-written.ensures.tree c.in_ok-written-2.ensures.ok) in
    OnErr-always _ (begun_to job tree old new next more c.in_ok-written-2.ensures.within)

pub ran_by_workers-requires-clause-of_run : goal.ran_by_workers-requires-clause-of_run
ran_by_workers-requires-clause-of_run g c = c.in_ok-written-2.ensures.ok.of_run

pub returns-clause-written : goal.returns-clause-written
returns-clause-written g c =
    let contents = g.W.Write.contents in
    let job = g.N.OfJob.job in
    let tree = c.args.merger.now.lines in
    let old = contents c.args.writer.now in
    let mid = contents c.run_and_write-written.new.writer in
    let new = contents c.write_rest.new.writer in
    let w = c.in_ok-written.written in
    let next = c.in_ok-written-2.written in
    let written = of_ok (IsWrittenTo job tree old mid) _ w c.in_ok-written.was c.run_and_write-written.ensures.written in
    subst (IsWrittenTo job tree old new) (sym c.in_ok-ran.ensures.written)
    (written_further job tree c.a_trace_is_its_pieces.ensures.lines {a = old} {b = mid} {c = new} w written next
    (subst (λ t. GoesOn job t mid new w next) c.run_and_write-written.ensures.tree c.in_ok-written-2.ensures.ok))
