-- What workers post.
use Rattle.std.specs.Prelude.{◌≡◌, ℕ, ◌<◌, ◌≤◌, Bool, if◌then◌else◌, List, length, set, slice_index_or}
use Rattle.std.specs.List.{All}
use Rattle.dv_time.specs.Time.{IsOfRun, end_of, is_before, rank}
use Rattle.dv_time.specs.declared.time.Time.{Time}
use Rattle.dv_bag.specs.Part.{nothing}
use Rattle.dv_conservative.specs.Process.{first_time}
use Rattle.dv_conservative.specs.World.{Job}
use Rattle.dv_board.specs.declared.posts.Piece.{Piece}
use Rattle.dv_board.specs.Clocks.{IsNoLater, later}
use Rattle.dv_board.specs.Jobs.{committed}

-- the pieces that were not taken yet, and for each process the time before which all that it committed was posted
pub record PostsOf (N : Type 0) : Type 0 where
  pub pieces : List (Piece N)
  pub ends : List Time

-- what is left of processes besides their posts
pub record RestOf (N : Type 0) : Type 0 where
  pub pieces : List (Piece N)

-- what one process of a job commits from one time on and before another, which is not past the end
pub record IsPiece {N : Type 0} (job : Job) (piece : Piece N) : Type 0 where
  pub process : piece.process < job.processes
  pub from_of_run : IsOfRun job.limit piece.from
  pub of_run : IsOfRun job.limit piece.clock
  pub within : rank job.limit piece.clock ≤ end_of job.limit job.horizon
  pub order : IsNoLater job piece.from piece.clock
  pub part : piece.part ≡ committed job piece.process piece.from piece.clock

-- the time before which all that a process committed was posted
abbrev pub end_in : List Time → ℕ → Time
end_in ends p = slice_index_or ends p first_time

-- a piece begins after what its process posted: one before it was lost
abbrev pub leaves_gap : {N : Type 0} → List Time → Piece N → Bool
leaves_gap ends piece = is_before (end_in ends piece.process) piece.from

-- after a piece is posted, its process's end is the later of both; what was posted behind a gap does not count
abbrev pub ends_with : {N : Type 0} → List Time → Piece N → List Time
ends_with ends piece =
    if leaves_gap ends piece then ends else set ends piece.process (later (end_in ends piece.process) piece.clock)

-- what is left of a process, by a piece that was not posted: nothing, at the end of its posts, if the piece begins after it
abbrev pub without_gap : {N : Type 0} → List Time → Piece N → Piece N
without_gap ends piece =
    let end = end_in ends piece.process in
    if leaves_gap ends piece then record { process = piece.process; from = end; clock = end; part = nothing } else piece

-- a time for each process of a job, none past the end
pub record AreEnds (job : Job) (ends : List Time) : Type 0 where
  pub count : length ends ≡ job.processes
  pub each : All (λ (t : Time). IsOfRun job.limit t × (rank job.limit t ≤ end_of job.limit job.horizon)) ends
