use Rattle.std.proofs.Common.{rules}
use Rattle.dv_bag.proofs.Pairs.{above_last, at_last}
use Rattle.dv_bag.proofs.bag.search.Goals as goal

pub returns-then-last-value-2-clause-absent : goal.returns-then-last-value-2-clause-absent
returns-then-last-value-2-clause-absent c =
    above_last c.args.value c.args.pairs.now c.requires c.in-len1-up.len_at_least (search rules)

pub returns-then-last-value-clause-found : goal.returns-then-last-value-clause-found
returns-then-last-value-clause-found c =
    at_last c.args.value c.args.pairs.now c.requires c.in-len1-up.len_at_least (search rules)
