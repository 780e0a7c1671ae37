-- Why a backlog does not join a piece, and which one of several it was.
use Rattle.std.specs.Prelude.{◌≡◌, ℕ, List, slice_get, Some, take}
use Rattle.dv_time.specs.Time.{IsOfRun}
use Rattle.dv_conservative.specs.World.{Job}
use Rattle.dv_board.specs.declared.backlog.Unjoined.{Unjoined}
use Rattle.dv_board.specs.declared.backlog.Unjoined.TheVariants.{Gap, Memory}
use Rattle.dv_board.specs.declared.posts.Piece.{Piece}
use Rattle.dv_board.specs.Backlogs.{BacklogOf, clock_of, clocks_with}
use Rattle.dv_board.specs.Clocks.{IsNoLater, IsSooner}

-- the clock is before the piece, and is returned with it; or memory was refused, and there was no gap and something to join
abbrev pub IsRefused : {N : Type 0} → Job → BacklogOf → Piece N → Unjoined N → Type 0
IsRefused job b piece (Gap kept back) =
    (back ≡ piece) × (kept ≡ clock_of b piece.process) × IsOfRun job.limit kept × IsSooner job kept piece.from
IsRefused job b piece Memory =
    IsNoLater job piece.from (clock_of b piece.process) × IsSooner job (clock_of b piece.process) piece.clock

-- of pieces one after the other, the one at an index was refused, and the clocks are as those before it make them
pub record IsCutAt {N : Type 0} (job : Job) (before after : BacklogOf) (pieces : List (Piece N)) (why : Unjoined N) : Type 0 where
  pub index : ℕ
  pub piece : Piece N
  pub there : slice_get pieces index ≡ Some piece
  pub clocks : after.clocks ≡ clocks_with before.clocks (take index pieces)
  pub refused : IsRefused job after piece why
