use Rattle.std.proofs.Common.{◌≡◌, ℕ, Some, length, slice_get}
use Rattle.dv_board.specs.Posts.{IsPiece}
use Rattle.dv_board.specs.declared.posts.Piece.{Piece}
use Rattle.dv_work.proofs.report.nothing.Given as goal

abbrev pub invariant-loop-process : goal.invariant-loop-process
invariant-loop-process g l = record {
  count : length l.rest.items ≡ l.process;
  numbers : (p : ℕ) (x : Piece g.row.N.Denot) → slice_get l.rest.items p ≡ Some x → x.process ≡ p;
  each : (p : ℕ) (x : Piece g.row.N.Denot) → slice_get l.rest.items p ≡ Some x → IsPiece g.N.OfJob.job x;
}
