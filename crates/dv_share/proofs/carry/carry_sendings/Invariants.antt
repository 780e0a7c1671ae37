use Rattle.std.proofs.Common.{◌≡◌, ◌++◌, drop}
use Rattle.dv_conservative.specs.Links.{carried_by}
use Rattle.dv_share.specs.Links.{deliveries_of, link_of, pairs_of}
use Rattle.dv_share.proofs.carry.carry_sendings.Given as goal

-- what was carried, with what is left to carry
abbrev pub invariant-loop-sending : goal.invariant-loop-sending
invariant-loop-sending l =
    deliveries_of l.deliveries.items ++ carried_by (link_of l.link) (pairs_of (drop l.sending-index l.sendings))
    ≡ deliveries_of l.fn.deliveries.items ++ carried_by (link_of l.link) (pairs_of l.sendings)
