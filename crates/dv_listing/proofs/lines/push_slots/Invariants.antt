use Rattle.std.proofs.Common.{◌≡◌, ◌++◌, drop, string_bytes}
use Rattle.dv_listing.specs.Listing.{line_of_slot, indexed_from, slots_text}
use Rattle.dv_listing.proofs.lines.push_slots.Given as goal

abbrev pub invariant-loop-index : goal.invariant-loop-index
invariant-loop-index l =
    string_bytes l.text ++ indexed_from (line_of_slot l.tree.names) l.index-counter (drop l.index-counter l.scope.variables)
    ≡ string_bytes l.initial.text ++ slots_text l.tree.names l.scope.variables
