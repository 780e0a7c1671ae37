use Rattle.std.proofs.Common.{arith}
use Rattle.dv_share.proofs.Starts.{ends_behind, links_between, no_links}
use Rattle.dv_share.proofs.routes.span_of.Goals as goal

pub returns-then-at-starts-clause-order : goal.returns-then-at-starts-clause-order
returns-then-at-starts-clause-order c =
    ends_behind c.args.links.now c.args.starts.now c.requires c.args.component (omega (arith, c.if-at-starts.true))

pub returns-then-at-starts-clause-part : goal.returns-then-at-starts-clause-part
returns-then-at-starts-clause-part c =
    links_between c.args.links.now c.args.starts.now c.requires c.args.component (omega (arith, c.if-at-starts.true))

pub returns-else-at-starts-clause-part : goal.returns-else-at-starts-clause-part
returns-else-at-starts-clause-part c =
    no_links c.args.links.now c.args.starts.now c.requires c.args.component (omega (arith, c.if-at-starts.false))
