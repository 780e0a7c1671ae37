use Rattle.std.proofs.Common.{◌≡◌, ◌++◌, List, drop}
use Rattle.dv_bag.specs.declared.entry.Outer.{Outer}
use Rattle.dv_record.specs.Told.{with_lines}
use Rattle.dv_record.proofs.Lines.{held_lines}
use Rattle.dv_lines.proofs.written_record.push_lines.Given as goal

-- the lines so far, with those of the ports that are left
abbrev pub invariant-loop-held : goal.invariant-loop-held
invariant-loop-held g l = record {
  lines :
      l.part.outer ++ held_lines l.time (drop l.held-index l.held-items)
      ≡ l.fn.part.outer ++ held_lines l.time l.held-items;
  grown : (more : List Outer) × (l.part ≡ with_lines more l.fn.part);
}
