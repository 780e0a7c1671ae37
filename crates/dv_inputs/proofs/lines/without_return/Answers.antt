use Rattle.dv_inputs.proofs.Cuts.{no_return, return_dropped}
use Rattle.dv_inputs.proofs.lines.without_return.Goals as goal

pub returns-then-last-eq13 : goal.returns-then-last-eq13
returns-then-last-eq13 c = return_dropped c.args.line.now c.in-len1-up.len_at_least c.if-last-eq13.true

pub returns-else-last-eq13 : goal.returns-else-last-eq13
returns-else-last-eq13 c = no_return c.args.line.now (λ some. c.if-last-eq13.false)
