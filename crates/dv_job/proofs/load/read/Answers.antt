use Rattle.std.proofs.Common.{rules}
use Rattle.std.proofs.lemmas.Result.{err_from_is_err_and}
use Rattle.dv_source.specs.Grammar.{IsFileOf}
use Rattle.dv_syntax.specs.Trees.{file_of}
use Rattle.dv_job.proofs.Loading.{unchecked_so, unlexed}
use Rattle.dv_job.proofs.load.read.Goals as goal

pub returns-in_err-lexed-clause-refused : goal.returns-in_err-lexed-clause-refused
returns-in_err-lexed-clause-refused c =
    let p = err_from_is_err_and c.from_residual.result c.from_residual.ensures.1 in
    rw (p.1, p.2) (unlexed c.in_err-lexed.field-0.0 c.args.text.now c.in_err-lexed.ensures.refused)

pub returns-clause-refused : goal.returns-clause-refused
returns-clause-refused c =
    let lexed = c.in_ok-lexed.lexed in
    let parsed : IsFileOf lexed.tokens.items (file_of c.in_ok-file.file) = search rules in
    unchecked_so c.check.result c.args.text.now _ _ _ c.in_ok-lexed.ensures.tokens parsed c.check.ensures.refused
