use Rattle.std.proofs.Common.{◌≡◌, length}
use Rattle.dv_board.specs.Stretches.{ended_past, start_past}
use Rattle.dv_board.proofs.held.let_go_ended.Given as goal

abbrev pub invariant-loop-first : goal.invariant-loop-first
invariant-loop-first g l =
    (start_past l.fn.time l.start l.ended.items ≡ start_past l.fn.time l.fn.from l.fn.ended.items)
    × (ended_past l.fn.time l.ended.items ≡ ended_past l.fn.time l.fn.ended.items)

abbrev pub decreases-loop-first : goal.decreases-loop-first
decreases-loop-first g l = length l.ended.items
