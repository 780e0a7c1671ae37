use Rattle.std.proofs.Common.{◌≡◌, ◌+◌, ◌++◌, drop, map}
use Rattle.dv_flat.specs.Probes.{links_of}
use Rattle.dv_flat.proofs.links.links_of.Given as goal

abbrev pub invariant-loop-probe : goal.invariant-loop-probe
invariant-loop-probe g l =
    l.links.items ++ links_of (map (λ list. list.items) l.arrivals) (l.first + l.probe) (drop l.probe l.sources)
    ≡ links_of (map (λ list. list.items) l.arrivals) l.first l.sources
