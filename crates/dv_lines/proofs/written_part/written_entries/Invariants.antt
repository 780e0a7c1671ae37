use Rattle.std.proofs.Common.{◌≡◌, ◌++◌, []}
use Rattle.std.specs.Slice.Iter.{iter_rest}
use Rattle.dv_lines.proofs.written_part.written_entries.Given as goal

-- the entries so far, with those that are left
abbrev pub invariant-loop-entry : goal.invariant-loop-entry
invariant-loop-entry g l = (l.written.entries ++ iter_rest l.entry-iterator ≡ l.part.entries) × (l.written.outer ≡ [])
