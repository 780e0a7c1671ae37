use Rattle.std.proofs.Common.{All, IsTrue, take}
use Rattle.dv_bag.specs.Bag.{is_number}
use Rattle.dv_bag.proofs.queue.Queue.holds_numbers.Given as goal

abbrev pub invariant-loop-number : goal.invariant-loop-number
invariant-loop-number l = All (λ v. IsTrue (is_number v)) (take l.number l.self-inside.values.items)
