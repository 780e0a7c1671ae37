use Rattle.std.proofs.Common.{take}
use Rattle.dv_text.specs.Names.{tree_names}
use Rattle.dv_lines.specs.Tables.{AreRows, IsDraft, texts_in}
use Rattle.dv_lines.proofs.words.rows_of.Given as goal

abbrev pub invariant-loop-component : goal.invariant-loop-component
invariant-loop-component l = record {
  draft : IsDraft l.draft l.tree;
  rows : AreRows l.draft.bytes.items (texts_in l.draft) l.rows.items (take l.component (tree_names l.tree));
}
