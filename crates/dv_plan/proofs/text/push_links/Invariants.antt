use Rattle.std.proofs.Common.{◌≡◌, ◌++◌, drop, string_bytes}
use Rattle.dv_share.specs.Links.{links_of}
use Rattle.dv_plan.specs.Texts.{links_text}
use Rattle.dv_plan.proofs.text.push_links.Given as goal

abbrev pub invariant-loop-index : goal.invariant-loop-index
invariant-loop-index g l =
    string_bytes l.text ++ links_text (g.N.Names.names l.names) l.source l.target l.index (links_of (drop l.index l.links))
    ≡ string_bytes l.initial.text ++ links_text (g.N.Names.names l.names) l.source l.target 0 (links_of l.links)
