use Rattle.std.proofs.Common.{◌≡◌, replicate}
use Rattle.dv_board.specs.Stretches.{nothing_held}
use Rattle.dv_board.proofs.backlog.none_held.Given as goal

abbrev pub invariant-loop : goal.invariant-loop
invariant-loop g l = l.held.items ≡ replicate l.counter nothing_held
