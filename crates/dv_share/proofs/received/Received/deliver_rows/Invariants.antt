use Rattle.std.proofs.Common.{drop}
use Rattle.dv_share.specs.Received.{HasTaken, IsReady, ReceivedOf}
use Rattle.dv_share.specs.Rows.{rows}
use Rattle.dv_share.proofs.received.Received.deliver_rows.Given as goal

-- what is left makes what is to be put in whole
abbrev pub invariant-loop-emission : goal.invariant-loop-emission
invariant-loop-emission l = record {
  ready : IsReady l.members l.self;
  rest :
      (r : ReceivedOf) → HasTaken l.members (rows l.members l.links (drop l.emission-index l.emitted)) l.self r
      → HasTaken l.members (rows l.members l.links l.emitted) l.fn.self r;
}
