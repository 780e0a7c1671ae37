-- What a run reports.
use Rattle.std.specs.Prelude.{◌≡◌, ℕ, List, length, slice_get, Some}
use Rattle.dv_board.specs.Posts.{IsPiece}
use Rattle.dv_board.specs.declared.posts.Piece.{Piece}
use Rattle.dv_conservative.specs.World.{Job}

-- What each process of a job committed and did not post, up to its clock, by the number of the process.
pub record AreReached {N : Type 0} (job : Job) (rest : List (Piece N)) : Type 0 where
  pub count : length rest ≡ job.processes
  pub numbers : (p : ℕ) (x : Piece N) → slice_get rest p ≡ Some x → x.process ≡ p
  pub each : (p : ℕ) (x : Piece N) → slice_get rest p ≡ Some x → IsPiece job x
