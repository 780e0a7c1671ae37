use Rattle.std.proofs.Common.{rules}
use Rattle.dv_bag.proofs.SendingOrder.{behind_last}
use Rattle.dv_bag.proofs.Sendings.{no_sending}
use Rattle.dv_bag.proofs.sent.search.Goals as goal

pub returns-in-Less-clause-absent : goal.returns-in-Less-clause-absent
returns-in-Less-clause-absent c =
    behind_last c.args.port c.args.value c.args.sendings.now no_sending c.requires c.in-len1-up.len_at_least (search rules)
