use Rattle.std.proofs.Common.{◌≡◌, drop}
use Rattle.std.specs.List.{flat_map}
use Rattle.dv_check.specs.Findings.{with_refusals}
use Rattle.dv_check.specs.Couplings.{link_refusals, interior_by}
use Rattle.dv_check.proofs.coupled.check_links.Given as goal

abbrev pub invariant-loop-link : goal.invariant-loop-link
invariant-loop-link l =
    with_refusals l.found (flat_map (link_refusals (interior_by l.interior)) (drop l.link-index l.links))
    ≡ with_refusals l.initial.found (flat_map (link_refusals (interior_by l.interior)) l.links)
