use Rattle.std.proofs.Common.{◌≡◌, ◌++◌, drop, map}
use Rattle.dv_share.specs.Links.{link_of}
use Rattle.law_sound.specs.Members.{entry_of}
use Rattle.dv_run.proofs.links.entrances.Given as goal

abbrev pub invariant-loop-link : goal.invariant-loop-link
invariant-loop-link l = map link_of l.found.items ++ map entry_of (drop l.link-index l.links) ≡ map entry_of l.links
