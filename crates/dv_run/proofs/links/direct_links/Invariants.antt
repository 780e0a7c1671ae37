use Rattle.std.proofs.Common.{◌≡◌, ◌++◌, drop, map}
use Rattle.dv_share.specs.Links.{link_of}
use Rattle.law_sound.specs.Members.{direct_of}
use Rattle.dv_run.proofs.links.direct_links.Given as goal

abbrev pub invariant-loop-link : goal.invariant-loop-link
invariant-loop-link l = map link_of l.found.items ++ map direct_of (drop l.link-index l.links) ≡ map direct_of l.links
