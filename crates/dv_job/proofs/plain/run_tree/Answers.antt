use Rattle.std.proofs.lemmas.Result.{err_from_is_err_and}
use Rattle.dv_syntax.specs.Trees.{file_of}
use Rattle.dv_job.proofs.Printing.{job_of_tree, left_by_inputs, left_by_write, prints, prints_beginning, trace_by_time}
use Rattle.dv_job.proofs.plain.run_tree.Goals as goal

pub returns-clause-printed : goal.returns-clause-printed
returns-clause-printed g c =
    prints _ _ _ _ _ _ c.args.tree.now _ _ _ c.a_trace_is_its_instants.ensures.whole
    (job_of_tree _ _ _ c.args.tree.now _ c.requires.accepted c.in_ok-played.ensures.inputs)
    c.in_ok-trace.ensures c.ending_of.ensures
    (c.in_ok-write_trace.ensures.ok
    (trace_by_time (file_of c.args.tree.now.file) c.in_ok-played.played c.args.options.now.horizon c.args.options.now.limit _
    c.parts_are_by_time.ensures.trace c.in_ok-trace.ensures))

pub returns-in_err-write_trace-clause-error : goal.returns-in_err-write_trace-clause-error
returns-in_err-write_trace-clause-error g c =
    let p = err_from_is_err_and c.from_residual-in_err-write_trace.result c.from_residual-in_err-write_trace.ensures.1 in
    let beginning =
    prints_beginning _ _ _ _ _ _ c.args.tree.now _ _ c.a_trace_is_its_instants.ensures.whole
    (job_of_tree _ _ _ c.args.tree.now _ c.requires.accepted c.in_ok-played.ensures.inputs)
    c.in_ok-trace.ensures
    (c.in_err-write_trace.ensures.err
    (trace_by_time (file_of c.args.tree.now.file) c.in_ok-played.played c.args.options.now.horizon c.args.options.now.limit _
    c.parts_are_by_time.ensures.trace c.in_ok-trace.ensures)) in
    rw (p.1, p.2) (left_by_write c.in_err-write_trace.field-0.0 _ _ _ _ _ _ beginning)

pub returns-in_err-played-clause-error : goal.returns-in_err-played-clause-error
returns-in_err-played-clause-error g c =
    let p = err_from_is_err_and c.from_residual.result c.from_residual.ensures.1 in
    rw (p.1, p.2)
    (left_by_inputs c.in_err-played.field-0.0 _ _ _ _ _ c.args.tree.now c.requires.accepted c.in_err-played.ensures.refused)
