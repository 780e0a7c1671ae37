use Rattle.std.proofs.Common.{◌≡◌, ◌++◌, drop, string_bytes}
use Rattle.dv_listing.specs.Listing.{phases_text}
use Rattle.dv_listing.proofs.lines.push_phases.Given as goal

abbrev pub invariant-loop-index : goal.invariant-loop-index
invariant-loop-index l =
    string_bytes l.text ++ phases_text l.tree.names (drop l.index l.phases) (drop l.index l.codes)
    ≡ string_bytes l.initial.text ++ phases_text l.tree.names l.phases l.codes
