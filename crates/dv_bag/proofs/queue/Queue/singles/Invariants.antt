use Rattle.std.proofs.Common.{◌≡◌, take}
use Rattle.dv_bag.specs.Collections.{singles}
use Rattle.dv_bag.proofs.queue.Queue.singles.Given as goal

abbrev pub invariant-loop-number : goal.invariant-loop-number
invariant-loop-number l = l.pairs.items ≡ singles (take l.number l.self-inside.values.items)
