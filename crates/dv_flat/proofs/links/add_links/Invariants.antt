use Rattle.std.proofs.Common.{◌≡◌, ◌++◌, drop}
use Rattle.dv_flat.specs.Probes.{links_to}
use Rattle.dv_flat.proofs.links.add_links.Given as goal

abbrev pub invariant-loop-arrival : goal.invariant-loop-arrival
invariant-loop-arrival g l =
    l.links.items ++ links_to l.from (drop l.arrival-index l.arrivals) ≡ l.fn.links.items ++ links_to l.from l.arrivals
