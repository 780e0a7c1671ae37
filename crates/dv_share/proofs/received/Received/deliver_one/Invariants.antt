use Rattle.std.proofs.Common.{[], ◌∷◌, drop}
use Rattle.dv_share.specs.Links.{links_of}
use Rattle.dv_share.specs.Received.{HasTaken, IsReady, ReceivedOf}
use Rattle.dv_share.specs.Rows.{carried_each}
use Rattle.dv_share.proofs.received.Received.deliver_one.Given as goal

-- what is left makes what is to be put in whole
abbrev pub invariant-loop-link : goal.invariant-loop-link
invariant-loop-link l = record {
  ready : IsReady l.members l.self;
  rest :
      (r : ReceivedOf)
      → HasTaken l.members (carried_each (links_of (drop l.link-index l.links)) ((l.sending.value, l.sending.copies) ∷ [])) l.self r
      → HasTaken l.members (carried_each (links_of l.links) ((l.sending.value, l.sending.copies) ∷ [])) l.fn.self r;
}
