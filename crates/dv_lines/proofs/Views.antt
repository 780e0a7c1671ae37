-- What a record of the code stands for.
use Rattle.std.proofs.Common.{List, ℕ}
use Rattle.dv_bag.specs.Part.{PartOf}
use Rattle.dv_tree.specs.Tables.{Source}
use Rattle.dv_text.specs.Names.{tree_names, tree_ports}
use Rattle.dv_text.specs.Texts.{part_text}
use Rattle.dv_lines.specs.Records.{Recorded}

abbrev pub seen : Source → (told settled handed : PartOf) → List ℕ → Recorded
seen tree told settled handed bytes = record {
  names = tree_names tree;
  outputs = tree_ports tree;
  told = told;
  settled = settled;
  handed = part_text (tree_names tree) (tree_ports tree) handed;
  bytes = bytes;
}
