use Rattle.dv_local.proofs.inbox.Inbox.first_from.Goals as goal

pub returns-then-is_empty-clause-there : goal.returns-then-is_empty-clause-there
returns-then-is_empty-clause-there c = λ t h. c.is_empty.ensures c.if-is_empty.true t
