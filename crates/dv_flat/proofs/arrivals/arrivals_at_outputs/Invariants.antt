use Rattle.std.proofs.Common.{◌≡◌, [], drop, map, replicate}
use Rattle.std.specs.Prelude.{fold}
use Rattle.dv_flat.specs.Probes.{with_arrivals}
use Rattle.dv_flat.proofs.arrivals.arrivals_at_outputs.Given as goal

-- the arrivals so far, and those of the bags that are left
abbrev pub invariant-loop-held : goal.invariant-loop-held
invariant-loop-held l =
    fold (λ ls h. with_arrivals h.port ls h.bag) (map (λ list. list.items) l.lists.items) (drop l.held-index l.held-items)
    ≡ fold (λ ls h. with_arrivals h.port ls h.bag) (replicate l.probes []) l.held-items
