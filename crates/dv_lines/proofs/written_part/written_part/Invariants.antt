use Rattle.std.proofs.Common.{◌≡◌, ◌++◌}
use Rattle.std.specs.Slice.Iter.{iter_rest}
use Rattle.dv_lines.proofs.written_part.written_part.Given as goal

-- the lines so far, with those that are left
abbrev pub invariant-loop-line : goal.invariant-loop-line
invariant-loop-line g l = (l.written.outer ++ iter_rest l.line-iterator ≡ l.part.outer) × (l.written.entries ≡ l.part.entries)
