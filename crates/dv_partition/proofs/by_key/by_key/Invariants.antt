use Rattle.std.proofs.Common.{◌≡◌, ℕ, ◌+◌, ◌<◌, ◌++◌, [], drop, get_or, map, length}
use Rattle.std.specs.Vec.Iter.{into_iter_items, into_iter_len}
use Rattle.dv_partition.specs.Steps.{with_key}
use Rattle.dv_partition.proofs.by_key.by_key.Given as goal

-- each list has, with what is still to come, all items of its key
abbrev pub invariant-loop-key : goal.invariant-loop-key
invariant-loop-key g l = record {
  long : length (map (λ list. list.items) l.lists.items) ≡ l.count;
  left : into_iter_len l.rest + l.key-index ≡ length l.keys;
  due : (k : ℕ) → k < l.count →
      get_or (map (λ list. list.items) l.lists.items) k [] ++ with_key k (drop l.key-index l.keys) (into_iter_items l.rest)
      ≡ with_key k l.keys l.fn.items.items;
}
