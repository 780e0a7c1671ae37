use Rattle.std.proofs.Common.{◌≡◌}
use Rattle.std.specs.List.{All}
use Rattle.std.specs.Vec.Iter.{into_iter_items}
use Rattle.dv_board.specs.Backlogs.{clocks_with}
use Rattle.dv_board.specs.Posts.{IsPiece}
use Rattle.dv_board.proofs.backlog.Backlog.extend_all.Given as goal

abbrev pub invariant-loop-piece : goal.invariant-loop-piece
invariant-loop-piece g l =
    All (IsPiece g.N.OfJob.job) (into_iter_items l.piece-iterator) × (l.self.mark ≡ l.fn.self.mark)
    × (l.self.clocks ≡ clocks_with l.fn.self.clocks l.yielded)
