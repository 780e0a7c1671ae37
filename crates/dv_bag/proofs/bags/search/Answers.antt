use Rattle.std.proofs.Common.{rules}
use Rattle.dv_bag.proofs.PortBags.{behind_last}
use Rattle.dv_bag.proofs.bags.search.Goals as goal

pub returns-then-last-port-2-clause-absent : goal.returns-then-last-port-2-clause-absent
returns-then-last-port-2-clause-absent c =
    behind_last c.args.port c.args.held.now c.last-item.result c.requires c.in-len1-up.len_at_least (search rules)
