use Rattle.std.proofs.Common.{length, ◌-◌, ◌<◌, ◌≤◌}
use Rattle.std.specs.List.{AllWithin}
use Rattle.dv_share.specs.declared.index.Indexed.{Indexed}
use Rattle.dv_share.proofs.index.next_cursor.Given as goal

-- all before the cursor stand before the index
abbrev pub invariant-loop-cursor : goal.invariant-loop-cursor
invariant-loop-cursor g l = record {
  within : l.cursor ≤ length l.items;
  before : AllWithin (λ (x : Indexed _). x.index < l.index) l.items 0 l.cursor;
}

abbrev pub decreases-loop-cursor : goal.decreases-loop-cursor
decreases-loop-cursor g l = length l.items - l.cursor
