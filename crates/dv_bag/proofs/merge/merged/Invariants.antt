use Rattle.std.proofs.Common.{◌≡◌, ◌+◌, ◌++◌, length}
use Rattle.dv_bag.specs.Bag.{IsBag, union}
use Rattle.dv_bag.proofs.merge.merged.Given as goal

abbrev pub invariant-loop-next : goal.invariant-loop-next
invariant-loop-next l = record {
  first : IsBag l.first;
  second : IsBag l.second;
  so_far : l.pairs.items ++ union l.first l.second ≡ union l.fn.first l.fn.second;
}

abbrev pub decreases-loop-next : goal.decreases-loop-next
decreases-loop-next l = length l.first + length l.second
