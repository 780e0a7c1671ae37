use Rattle.std.proofs.Common.{◌≡◌, List, ◌++◌, drop}
use Rattle.std.specs.List.{flat_map}
use Rattle.dv_bag.specs.declared.entry.Entry.{Entry}
use Rattle.dv_text.specs.Writing.{TakesFront}
use Rattle.dv_lines.specs.Spans.{merged_lines}
use Rattle.dv_lines.proofs.trace_writer.write_entries.Given as goal

abbrev pub invariant-loop-entry : goal.invariant-loop-entry
invariant-loop-entry g l = record {
  written :
      (more : List Entry) → TakesFront (g.W.Write.contents l.fn.writer) (g.W.Write.contents l.writer)
      (l.fn.lines ++ merged_lines l.words (l.entries ++ more) l.outer)
      (l.lines ++ merged_lines l.words (drop l.entry-index (l.entries ++ more)) l.rest);
  text : l.text ≡ flat_map g.N.OfJob.line (drop l.entry-index l.entries);
}
