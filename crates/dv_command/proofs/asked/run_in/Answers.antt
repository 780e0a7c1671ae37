use Rattle.std.proofs.lemmas.Result.{err_from_is_err_and}
use Rattle.dv_command.proofs.asked.run_in.Goals as goal

pub returns-in_err-rounds : goal.returns-in_err-rounds
returns-in_err-rounds c =
    let p = err_from_is_err_and c.from_residual.result c.from_residual.ensures.1 in
    rw (p.1, p.2) (λ nothing run asks. c.in_err-rounds.ensures nothing (run.rounds, run.workers) asks.driving)
