use Rattle.std.proofs.Common.{◌≡◌, ◌++◌, drop}
use Rattle.dv_conservative.specs.Links.{carried_by}
use Rattle.dv_share.specs.Links.{deliveries_of, link_of}
use Rattle.dv_share.proofs.carry.carry_bag.Given as goal

-- what was carried, with what is left to carry
abbrev pub invariant-loop-pair : goal.invariant-loop-pair
invariant-loop-pair l =
    deliveries_of l.deliveries.items ++ carried_by (link_of l.link) (drop l.pair-index l.pair-items)
    ≡ deliveries_of l.fn.deliveries.items ++ carried_by (link_of l.link) l.bag
