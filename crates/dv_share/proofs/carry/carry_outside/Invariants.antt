use Rattle.std.proofs.Common.{◌≡◌, ◌++◌}
use Rattle.dv_share.specs.Links.{deliveries_of, links_of}
use Rattle.dv_share.proofs.Ports.{carried_below, next_port}
use Rattle.dv_share.proofs.carry.carry_outside.Given as goal

-- what the links carry that lead from a port before the next one
abbrev pub invariant-loop-held : goal.invariant-loop-held
invariant-loop-held l =
    deliveries_of l.deliveries.items
    ≡ deliveries_of l.fn.deliveries.items
    ++ carried_below l.outside (next_port (λ h. h.port) l.held-items l.held-index) (links_of l.links)
