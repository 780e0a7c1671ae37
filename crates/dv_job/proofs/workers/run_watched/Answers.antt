use Rattle.std.proofs.Common.{Err, Ok, sym, subst}
use Rattle.std.proofs.lemmas.Result.{err_from_is_err_and}
use Rattle.dv_syntax.specs.Trees.{file_of}
use Rattle.dv_run.specs.Runs.{IsCutShort, IsPrinted}
use Rattle.dv_job.specs.Halts.{IsCutAs}
use Rattle.dv_job.specs.Loading.{JobParts}
use Rattle.dv_job.proofs.Ran.{cut_as_said, if_it_was_left, if_workers_ended, left_by_answer, left_by_cut, told_where_stopped}
use Rattle.dv_job.proofs.workers.run_watched.Goals as goal

pub returns-in_err-setup-clause-error : goal.returns-in_err-setup-clause-error
returns-in_err-setup-clause-error g c =
    let p = err_from_is_err_and c.from_residual-in_err-setup.result c.from_residual-in_err-setup.ensures.1 in
    rw (p.1, p.2) (left_by_answer c.in_err-setup.field-0.0 _ _ _ c.args.options.now _ c.in_err-setup.ensures.error)

pub returns-in_err-ran-clause-error : goal.returns-in_err-ran-clause-error
returns-in_err-ran-clause-error g c =
    let p = err_from_is_err_and c.from_residual-in_err-ran.result c.from_residual-in_err-ran.ensures.1 in
    let old = g.W.Write.contents c.args.writer.now in
    let new = g.W.Write.contents c.compiled_workers.new.writer in
    rw (p.1, p.2)
    (left_by_cut _ _ _ _ _ _ _ _ c.in_ok-setup.ensures.planned c.in_err-ran.field-0.0 c.a_trace_is_its_pieces.ensures.lines
    (subst (λ (t : JobParts). IsCutShort t.tree.names (file_of t.tree.file) t.inputs t.horizon t.limit old new) c.job-job.ensures.parts
    c.in_err-ran.ensures.err))

pub returns-clause-ended : goal.returns-clause-ended
returns-clause-ended g c =
    let old = g.W.Write.contents c.args.writer.now in
    let mid = g.W.Write.contents c.compiled_workers.new.writer in
    let r = c.in_ok-ran.field-0.ran in
    if_workers_ended _ _ _ _ c.args.options.now _ _ _ c.in_ok-setup.ensures.planned r old mid (g.W.Write.contents c.write_end.new.writer)
    (subst (λ (t : JobParts). IsPrinted t.tree.names (file_of t.tree.file) t.inputs t.groups t.horizon t.limit old mid r)
    c.job-job.ensures.parts c.in_ok-ran.ensures.printed)
    c.in_ok-ran.ensures.ended (Ok c.in_ok-ended.ended) c.in_ok-ended.ensures.ending c.in_ok-ended.ensures.text

pub returns-in_err-ended-clause-error : goal.returns-in_err-ended-clause-error
returns-in_err-ended-clause-error g c =
    let p = err_from_is_err_and c.from_residual-in_err-ended.result c.from_residual-in_err-ended.ensures.1 in
    let old = g.W.Write.contents c.args.writer.now in
    let mid = g.W.Write.contents c.compiled_workers.new.writer in
    let r = c.in_ok-ran.field-0.ran in
    rw (p.1, p.2)
    (if_it_was_left _ _ _ _ c.args.options.now _ _ _ c.in_ok-setup.ensures.planned r old mid (g.W.Write.contents c.write_end.new.writer)
    (subst (λ (t : JobParts). IsPrinted t.tree.names (file_of t.tree.file) t.inputs t.groups t.horizon t.limit old mid r)
    c.job-job.ensures.parts c.in_ok-ran.ensures.printed)
    (Err c.in_err-ended.field-0.0) c.in_err-ended.ensures.error)

pub returns-clause-cut : goal.returns-clause-cut
returns-clause-cut g c =
    let r = c.in_ok-ran.field-0 in
    subst (IsCutAs r.halts.items) (sym c.in_ok-ended.ensures.ending) (cut_as_said r.ran r.halts.items c.in_ok-ran.ensures.halts)

pub returns-clause-cause : goal.returns-clause-cause
returns-clause-cause g c =
    let r = c.in_ok-ran.field-0 in
    told_where_stopped r.halts.items c.in_ok-ended.ended
    (subst (IsCutAs r.halts.items) (sym c.in_ok-ended.ensures.ending) (cut_as_said r.ran r.halts.items c.in_ok-ran.ensures.halts))
