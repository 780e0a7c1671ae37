use Rattle.std.proofs.lemmas.Result.{err_from_is_err_and}
use Rattle.dv_command.proofs.viewed.excerpt_in.Goals as goal

pub returns-in_err-from : goal.returns-in_err-from
returns-in_err-from c =
    let p = err_from_is_err_and c.from_residual.result c.from_residual.ensures.1 in
    rw (p.1, p.2) (λ nothing excerpt asks. c.in_err-from.ensures nothing (excerpt.from, excerpt.to) asks.window)
