-- What a backlog keeps, and what callers see of it.
use Rattle.std.specs.Prelude.{◌≡◌, ℕ, ◌<◌, ◌≤◌, List, [], ◌∷◌, length, set, slice_get, slice_index_or, Some}
use Rattle.dv_time.specs.Time.{IsOfRun, end_of, rank}
use Rattle.dv_time.specs.declared.time.Time.{Time}
use Rattle.dv_conservative.specs.Process.{first_time}
use Rattle.dv_conservative.specs.World.{Job}
use Rattle.dv_board.specs.declared.held.Stretch.{Stretch}
use Rattle.dv_board.specs.declared.posts.Piece.{Piece}
use Rattle.dv_board.specs.Clocks.{IsNoLater, later}
use Rattle.dv_board.specs.Jobs.{IsMergeable, committed}
use Rattle.dv_board.specs.Stretches.{HeldOf}

-- the time up to which the trace is written, and the clock up to which each process is kept
pub record BacklogOf : Type 0 where
  pub mark : Time
  pub clocks : List Time

-- the clock up to which a process is kept
abbrev pub clock_of : BacklogOf → ℕ → Time
clock_of backlog p = slice_index_or backlog.clocks p first_time

-- the clocks of processes after pieces one after the other: each makes its process's clock the later of that clock and its own
abbrev pub clocks_with : {N : Type 0} → List Time → List (Piece N) → List Time
clocks_with clocks [] = clocks
clocks_with clocks (piece ∷ pieces) =
    clocks_with (set clocks piece.process (later (slice_index_or clocks piece.process first_time) piece.clock)) pieces

-- what a process commits from one time on and before the end of a stretch
pub record IsStretch {N : Type 0} (job : Job) (p : ℕ) (from : Time) (s : Stretch N) : Type 0 where
  pub of_run : IsOfRun job.limit s.upto
  pub order : IsNoLater job from s.upto
  pub part : s.part ≡ committed job p from s.upto

-- stretches that follow one another from a time on
abbrev pub AreStretches : {N : Type 0} → Job → ℕ → Time → List (Stretch N) → Type 0
AreStretches job p from [] = Unit {0}
AreStretches job p from (s ∷ ss) = IsStretch job p from s × AreStretches job p s.upto ss

-- the end of the last one, or where they begin
abbrev pub end_of_last : {N : Type 0} → Time → List (Stretch N) → Time
end_of_last from [] = from
end_of_last from (s ∷ ss) = end_of_last s.upto ss

-- what a process commits from a time that is not past the mark, to its clock, which is not past the end
pub record IsHeld {N : Type 0} (job : Job) (mark : Time) (p : ℕ) (h : HeldOf N) : Type 0 where
  pub of_run : IsOfRun job.limit h.clock
  pub within : rank job.limit h.clock ≤ end_of job.limit job.horizon
  pub early : IsNoLater job h.from mark
  pub order : IsNoLater job mark h.clock
  pub ended : AreStretches job p h.from h.ended
  pub upto : IsNoLater job (end_of_last h.from h.ended) h.clock
  pub last : h.last ≡ committed job p (end_of_last h.from h.ended) h.clock

-- one for each process
pub record AreHeld {N : Type 0} (job : Job) (mark : Time) (held : List (HeldOf N)) : Type 0 where
  pub merges : IsMergeable job
  pub some : 0 < job.processes
  pub of_run : IsOfRun job.limit mark
  pub many : length held ≡ job.processes
  pub each : (p : ℕ) (h : HeldOf N) → slice_get held p ≡ Some h → IsHeld job mark p h
