use Rattle.std.proofs.Common.{◌≡◌, drop, map}
use Rattle.dv_flat.specs.Probes.{with_arrivals}
use Rattle.dv_flat.proofs.arrivals.add_arrivals.Given as goal

abbrev pub invariant-loop-pair : goal.invariant-loop-pair
invariant-loop-pair g l =
    with_arrivals l.to (map (λ list. list.items) l.lists.items) (drop l.pair-index l.pair-items)
    ≡ with_arrivals l.to (map (λ list. list.items) l.fn.lists.items) l.pair-items
