use Rattle.std.proofs.Common.{drop}
use Rattle.dv_conservative.specs.Links.{carried_by}
use Rattle.dv_share.specs.Links.{link_of, pairs_of}
use Rattle.dv_share.specs.Received.{HasTaken, IsReady, ReceivedOf}
use Rattle.dv_share.proofs.received.Received.deliver_sendings.Given as goal

-- what is left makes what is to be put in whole
abbrev pub invariant-loop-sending : goal.invariant-loop-sending
invariant-loop-sending l = record {
  ready : IsReady l.members l.self;
  rest :
      (r : ReceivedOf) → HasTaken l.members (carried_by (link_of l.link) (pairs_of (drop l.sending-index l.sendings))) l.self r
      → HasTaken l.members (carried_by (link_of l.link) (pairs_of l.sendings)) l.fn.self r;
}
