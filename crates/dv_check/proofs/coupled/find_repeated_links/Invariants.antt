use Rattle.std.proofs.Common.{◌≡◌, drop}
use Rattle.dv_check.specs.Findings.{with_refusals}
use Rattle.dv_check.specs.LinkSets.{has_link, no_link}
use Rattle.dv_check.specs.Couplings.{repeated_links_after, interior_by}
use Rattle.dv_check.proofs.coupled.find_repeated_links.Given as goal

abbrev pub invariant-loop-link : goal.invariant-loop-link
invariant-loop-link l =
    with_refusals l.found (repeated_links_after (interior_by l.interior) (has_link l.seen) (drop l.link-index l.links))
    ≡ with_refusals l.initial.found (repeated_links_after (interior_by l.interior) no_link l.links)
