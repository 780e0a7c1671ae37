use Rattle.std.proofs.Common.{ap, ◌∙◌}
use Rattle.dv_local.specs.Arrivals.{arrivals_at}
use Rattle.dv_local.proofs.ArrivalMaps.{empty_of, nothing_in_empty}
use Rattle.dv_local.proofs.inbox.Inbox.new.Goals as goal

pub returns-clause-nothing : goal.returns-clause-nothing
returns-clause-nothing c = λ t. ap (arrivals_at t) (empty_of c.new.result c.new.ensures.empty) ∙ nothing_in_empty t
