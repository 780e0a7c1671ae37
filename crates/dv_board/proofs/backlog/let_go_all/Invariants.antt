use Rattle.std.proofs.Common.{◌≡◌, ◌++◌, drop, map, take}
use Rattle.dv_board.specs.Stretches.{rest_of}
use Rattle.dv_board.proofs.backlog.let_go_all.Given as goal

abbrev pub invariant-loop-kept : goal.invariant-loop-kept
invariant-loop-kept g l =
    l.kept-items ≡ map (rest_of l.fn.time) (take l.kept-index l.initial.kept-items) ++ drop l.kept-index l.initial.kept-items
