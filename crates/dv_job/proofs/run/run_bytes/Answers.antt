use Rattle.std.proofs.lemmas.Result.{err_from_is_err_and}
use Rattle.std.proofs.Common.{ℕ, subst}
use Rattle.dv_syntax.specs.Trees.{file_of}
use Rattle.dv_run.specs.Runs.{IsCutShort, IsRunOf}
use Rattle.dv_job.specs.Loading.{JobParts}
use Rattle.dv_job.proofs.Ran.{if_it_ended, if_it_is_led, if_it_was_led_short, if_it_was_left, led_by_answer, led_by_cut}
use Rattle.dv_job.proofs.Ran.{left_by_answer, left_by_cut}
use Rattle.dv_job.proofs.run.run_bytes.Goals as goal

pub returns-in_err-setup-clause-error : goal.returns-in_err-setup-clause-error
returns-in_err-setup-clause-error g c =
    let p = err_from_is_err_and c.from_residual-in_err-setup.result c.from_residual-in_err-setup.ensures.1 in
    rw (p.1, p.2) (left_by_answer c.in_err-setup.field-0.0 _ _ _ c.args.options.now _ c.in_err-setup.ensures.error)

pub returns-in_err-setup-clause-led_short : goal.returns-in_err-setup-clause-led_short
returns-in_err-setup-clause-led_short g c =
    let p = err_from_is_err_and c.from_residual-in_err-setup.result c.from_residual-in_err-setup.ensures.1 in
    rw (p.1, p.2) (led_by_answer c.in_err-setup.field-0.0 _ _ _ c.args.options.now _ c.in_err-setup.ensures.error)

pub returns-in_err-ran-clause-error : goal.returns-in_err-ran-clause-error
returns-in_err-ran-clause-error g c =
    let p = err_from_is_err_and c.from_residual-in_err-ran.result c.from_residual-in_err-ran.ensures.1 in
    let old = g.W.Write.contents c.args.writer.now in
    let new = g.W.Write.contents c.compiled_run.new.writer in
    rw (p.1, p.2)
    (left_by_cut _ _ _ _ _ _ _ _ c.in_ok-setup.ensures.planned c.in_err-ran.field-0.0 c.a_trace_is_its_pieces.ensures.lines
    (subst (λ (t : JobParts). IsCutShort t.tree.names (file_of t.tree.file) t.inputs t.horizon t.limit old new) c.job-job.ensures.parts
    c.in_err-ran.ensures.err))

pub returns-in_err-ran-clause-led_short : goal.returns-in_err-ran-clause-led_short
returns-in_err-ran-clause-led_short g c =
    let p = err_from_is_err_and c.from_residual-in_err-ran.result c.from_residual-in_err-ran.ensures.1 in
    let old = g.W.Write.contents c.args.writer.now in
    let new = g.W.Write.contents c.compiled_run.new.writer in
    rw (p.1, p.2)
    (led_by_cut _ _ _ _ _ _ _ _ c.in_ok-setup.ensures.planned c.in_err-ran.field-0.0 c.a_trace_is_its_pieces.ensures.lines
    (subst (λ (t : JobParts). IsCutShort t.tree.names (file_of t.tree.file) t.inputs t.horizon t.limit old new) c.job-job.ensures.parts
    c.in_err-ran.ensures.err))

pub returns-clause-ended : goal.returns-clause-ended
returns-clause-ended g c =
    let o = c.args.options.now in
    let old = g.W.Write.contents c.args.writer.now in
    let mid = g.W.Write.contents c.compiled_run.new.writer in
    let tree = c.in_ok-tree.tree in
    let setup = c.in_ok-setup.setup in
    if_it_ended _ _ _ _ o _ _ _ c.in_ok-setup.ensures.planned c.in_ok-ran.ran old mid (g.W.Write.contents c.write_end.new.writer)
    (subst (λ (n : ℕ). IsRunOf tree.names (file_of tree.file) setup.inputs setup.groups o.horizon o.limit o.capacity n old mid
    c.in_ok-ran.ran) c.granted.ensures
    (subst (λ (t : JobParts). IsRunOf t.tree.names (file_of t.tree.file) t.inputs t.groups t.horizon t.limit o.capacity c.granted.result
    old mid c.in_ok-ran.ran) c.job-job.ensures.parts c.in_ok-ran.ensures.run))
    c.write_end.result c.write_end.ensures.ending c.write_end.ensures.text

pub returns-clause-led : goal.returns-clause-led
returns-clause-led g c =
    let o = c.args.options.now in
    let old = g.W.Write.contents c.args.writer.now in
    let mid = g.W.Write.contents c.compiled_run.new.writer in
    let tree = c.in_ok-tree.tree in
    let setup = c.in_ok-setup.setup in
    if_it_is_led _ _ _ _ o _ _ _ c.in_ok-setup.ensures.planned c.in_ok-ran.ran old mid (g.W.Write.contents c.write_end.new.writer)
    (subst (λ (n : ℕ). IsRunOf tree.names (file_of tree.file) setup.inputs setup.groups o.horizon o.limit o.capacity n old mid
    c.in_ok-ran.ran) c.granted.ensures
    (subst (λ (t : JobParts). IsRunOf t.tree.names (file_of t.tree.file) t.inputs t.groups t.horizon t.limit o.capacity c.granted.result
    old mid c.in_ok-ran.ran) c.job-job.ensures.parts c.in_ok-ran.ensures.run))
    c.write_end.result c.write_end.ensures.ending c.write_end.ensures.text

pub returns-clause-error : goal.returns-clause-error
returns-clause-error g c =
    let o = c.args.options.now in
    let old = g.W.Write.contents c.args.writer.now in
    let mid = g.W.Write.contents c.compiled_run.new.writer in
    if_it_was_left _ _ _ _ o _ _ _ c.in_ok-setup.ensures.planned c.in_ok-ran.ran old mid (g.W.Write.contents c.write_end.new.writer)
    (subst (λ (t : JobParts). IsRunOf t.tree.names (file_of t.tree.file) t.inputs t.groups t.horizon t.limit o.capacity c.granted.result
    old mid c.in_ok-ran.ran) c.job-job.ensures.parts c.in_ok-ran.ensures.run).printed
    c.write_end.result c.write_end.ensures.error

pub returns-clause-led_short : goal.returns-clause-led_short
returns-clause-led_short g c =
    let o = c.args.options.now in
    let old = g.W.Write.contents c.args.writer.now in
    let mid = g.W.Write.contents c.compiled_run.new.writer in
    let tree = c.in_ok-tree.tree in
    let setup = c.in_ok-setup.setup in
    if_it_was_led_short _ _ _ _ o _ _ _ c.in_ok-setup.ensures.planned c.in_ok-ran.ran old mid (g.W.Write.contents c.write_end.new.writer)
    (subst (λ (n : ℕ). IsRunOf tree.names (file_of tree.file) setup.inputs setup.groups o.horizon o.limit o.capacity n old mid
    c.in_ok-ran.ran) c.granted.ensures
    (subst (λ (t : JobParts). IsRunOf t.tree.names (file_of t.tree.file) t.inputs t.groups t.horizon t.limit o.capacity c.granted.result
    old mid c.in_ok-ran.ran) c.job-job.ensures.parts c.in_ok-ran.ensures.run))
    c.write_end.result c.write_end.ensures.error
