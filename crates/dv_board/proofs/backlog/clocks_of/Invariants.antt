use Rattle.std.proofs.Common.{◌≡◌, map, take}
use Rattle.dv_board.proofs.backlog.clocks_of.Given as goal

abbrev pub invariant-loop-kept : goal.invariant-loop-kept
invariant-loop-kept g l = l.clocks.items ≡ map (λ h. h.clock) (take l.kept-index l.fn.held)
