use Rattle.std.proofs.Common.{◌++◌, drop}
use Rattle.dv_text.specs.Merging.{trace_text}
use Rattle.dv_text.specs.Names.{tree_names, tree_ports}
use Rattle.dv_text.specs.Writing.{TakesFront}
use Rattle.dv_merge.specs.Spans.{entries_of}
use Rattle.dv_lines.specs.Spans.{merged_lines}
use Rattle.dv_lines.proofs.trace_writer.write_merged.Given as goal

abbrev pub invariant-loop-span : goal.invariant-loop-span
invariant-loop-span g l =
    TakesFront (g.W.Write.contents l.fn.writer) (g.W.Write.contents l.writer)
    (trace_text (tree_names l.words) (tree_ports l.words) l.part)
    (l.lines ++ merged_lines l.words (entries_of (drop l.span-index l.spans)) l.outer)
