use Rattle.std.proofs.Common.{◌∙◌}
use Rattle.dv_time.proofs.Ranks.{is_before-rank}
use Rattle.dv_time.proofs.time.Time.is_before.Goals as goal

pub returns-clause-rank : goal.returns-clause-rank
returns-clause-rank c = λ limit h k. c.precedes.ensures ∙ is_before-rank limit c.args.self c.args.other h k
