use Rattle.std.proofs.Common.{◌≡◌, ◌++◌, length}
use Rattle.dv_text.specs.Merging.{groups_before, groups_from, groups_of}
use Rattle.dv_text.specs.Names.{tree_ports}
use Rattle.dv_text.specs.Writing.{TakesFront}
use Rattle.dv_lines.proofs.trace_writer.write_before.Given as goal

abbrev pub invariant-loop-first : goal.invariant-loop-first
invariant-loop-first g l = record {
  text :
      TakesFront (g.W.Write.contents l.fn.writer) (g.W.Write.contents l.writer)
      (l.fn.lines ++ groups_before l.time (groups_of (tree_ports l.words) l.outer))
      (l.lines ++ groups_before l.time (groups_of (tree_ports l.words) l.rest));
  left : groups_from l.time (groups_of (tree_ports l.words) l.rest) ≡ groups_from l.time (groups_of (tree_ports l.words) l.outer);
}

abbrev pub decreases-loop-first : goal.decreases-loop-first
decreases-loop-first g l = length l.rest
