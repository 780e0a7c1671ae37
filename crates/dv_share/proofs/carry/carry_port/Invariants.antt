use Rattle.std.proofs.Common.{◌≡◌, ◌++◌, drop}
use Rattle.dv_share.specs.Links.{deliveries_of, links_of, pairs_of}
use Rattle.dv_share.specs.Rows.{carried_each}
use Rattle.dv_share.proofs.carry.carry_port.Given as goal

-- what was carried, with what is left to carry
abbrev pub invariant-loop-link : goal.invariant-loop-link
invariant-loop-link l =
    deliveries_of l.deliveries.items ++ carried_each (links_of (drop l.link-index l.links)) (pairs_of l.sendings)
    ≡ deliveries_of l.fn.deliveries.items ++ carried_each (links_of l.links) (pairs_of l.sendings)
