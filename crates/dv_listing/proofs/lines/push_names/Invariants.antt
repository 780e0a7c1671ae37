use Rattle.std.proofs.Common.{◌≡◌, ◌++◌, drop, string_bytes}
use Rattle.dv_listing.specs.Listing.{line_of_name, names_text, indexed_from}
use Rattle.dv_listing.proofs.lines.push_names.Given as goal

abbrev pub invariant-loop-index : goal.invariant-loop-index
invariant-loop-index l =
    string_bytes l.text ++ indexed_from (line_of_name l.tree.names l.word) l.index-counter (drop l.index-counter l.names)
    ≡ string_bytes l.initial.text ++ names_text l.tree.names l.word l.names
