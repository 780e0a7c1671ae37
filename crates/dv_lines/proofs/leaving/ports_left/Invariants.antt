use Rattle.std.proofs.Common.{◌≡◌, ◌++◌, drop}
use Rattle.std.specs.List.{flat_map}
use Rattle.dv_lines.specs.Tables.{Extends, ports_found}
use Rattle.dv_lines.specs.Words.{held_words}
use Rattle.dv_lines.proofs.leaving.ports_left.Given as goal

abbrev pub invariant-loop-held : goal.invariant-loop-held
invariant-loop-held l = record {
  more : Extends l.initial.lines l.lines;
  text :
      l.lines ++ flat_map (held_words (ports_found l.words)) (drop l.held-index l.bags)
      ≡ l.initial.lines ++ flat_map (held_words (ports_found l.words)) l.bags;
}
