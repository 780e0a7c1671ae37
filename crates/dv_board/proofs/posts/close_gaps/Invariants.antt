use Rattle.std.proofs.Common.{◌≡◌, ◌++◌, drop, map, take}
use Rattle.dv_board.specs.Posts.{without_gap}
use Rattle.dv_board.proofs.posts.close_gaps.Given as goal

abbrev pub invariant-loop-piece : goal.invariant-loop-piece
invariant-loop-piece g l =
    l.piece-items ≡ map (without_gap l.fn.ends) (take l.piece-index l.initial.piece-items) ++ drop l.piece-index l.initial.piece-items
