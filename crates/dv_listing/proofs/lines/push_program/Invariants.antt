use Rattle.std.proofs.Common.{◌≡◌, ◌++◌, drop, string_bytes}
use Rattle.dv_listing.specs.Listing.{instruction_line, indexed_from, program_text}
use Rattle.dv_listing.proofs.lines.push_program.Given as goal

abbrev pub invariant-loop-index : goal.invariant-loop-index
invariant-loop-index l =
    string_bytes l.text ++ indexed_from instruction_line l.index-counter (drop l.index-counter l.instruction-items)
    ≡ string_bytes l.fn.text ++ program_text l.phase l.word l.program.code
