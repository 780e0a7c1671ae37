use Rattle.std.proofs.Common.{◌++◌, length}
use Rattle.std.specs.List.{flat_map}
use Rattle.dv_text.specs.Merging.{group_text, groups_of}
use Rattle.dv_text.specs.Names.{tree_ports}
use Rattle.dv_text.specs.Writing.{TakesFront}
use Rattle.dv_lines.proofs.trace_writer.write_groups.Given as goal

abbrev pub invariant-loop-rest : goal.invariant-loop-rest
invariant-loop-rest g l =
    TakesFront (g.W.Write.contents l.fn.writer) (g.W.Write.contents l.writer)
    (l.fn.lines ++ flat_map group_text (groups_of (tree_ports l.words) l.outer))
    (l.lines ++ flat_map group_text (groups_of (tree_ports l.words) l.rest))

abbrev pub decreases-loop-rest : goal.decreases-loop-rest
decreases-loop-rest g l = length l.rest
