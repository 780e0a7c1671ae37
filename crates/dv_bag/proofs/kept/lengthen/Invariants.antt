use Rattle.std.proofs.Common.{◌≡◌, ◌≤◌, length}
use Rattle.dv_bag.proofs.kept.lengthen.Given as goal

abbrev pub invariant-loop-index : goal.invariant-loop-index
invariant-loop-index l = record {
  count : length l.kept.items ≡ l._index;
  more : length l.fn.kept.items ≤ length l.kept.items;
}
