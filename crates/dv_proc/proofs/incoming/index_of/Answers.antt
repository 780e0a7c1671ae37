use Rattle.std.proofs.Common.{◌≡◌, Some, None, ◌∙◌}
use Rattle.dv_proc.proofs.Arrived.{index_now, index_last}
use Rattle.dv_proc.proofs.incoming.index_of.Goals as goal

pub returns-then-number-link : goal.returns-then-number-link
returns-then-number-link c =
    index_now c.args.number c.loop-index.index c.index-incoming-index.result c.args.incoming.now
    c.loop-index.invariant c.loop-index-test.true c.index-incoming-index.is c.if-number-link.true

pub returns : goal.returns
returns c = index_last c.args.number c.loop-index.index c.args.incoming.now c.loop-index.invariant c.loop-index-test.false
