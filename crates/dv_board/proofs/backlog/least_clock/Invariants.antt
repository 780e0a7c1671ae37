use Rattle.dv_board.proofs.Indices.{IsLeastOf}
use Rattle.dv_board.proofs.backlog.least_clock.Given as goal

abbrev pub invariant-loop-kept : goal.invariant-loop-kept
invariant-loop-kept g l = IsLeastOf l.fn.held l.kept-index l.least
