use Rattle.std.proofs.Common.{◌≡◌, ◌≤◌, ◌-◌, ◌++◌, ◌∷◌, [], length}
use Rattle.dv_text.specs.Merging.{first_text, groups_of, other_groups}
use Rattle.dv_text.specs.Names.{tree_ports}
use Rattle.dv_text.proofs.Groups.{ports_at, after_at}
use Rattle.dv_lines.proofs.trace_writer.put_group.Given as goal

abbrev pub invariant-loop-next : goal.invariant-loop-next
invariant-loop-next l = record {
  text :
      l.lines ++ (ports_at (tree_ports l.words) l.first.time l.rest ++ (10 ∷ []))
      ≡ l.fn.lines ++ first_text (groups_of (tree_ports l.words) l.outer);
  left : groups_of (tree_ports l.words) (after_at l.first.time l.rest) ≡ other_groups (groups_of (tree_ports l.words) l.outer);
  fewer : length l.rest ≤ length l.outer - 1;
}

abbrev pub decreases-loop-next : goal.decreases-loop-next
decreases-loop-next l = length l.rest
