-- Clocks of a run.
use Rattle.std.specs.Prelude.{◌≤◌, ℕ, if◌then◌else◌, List, length, replicate}
use Rattle.std.specs.List.{All}
use Rattle.dv_conservative.specs.Events.{same_time}
use Rattle.dv_conservative.specs.World.{Job}
use Rattle.dv_plan.specs.Clocks.{least_time}
use Rattle.dv_time.specs.Time.{IsOfRun, end_of, rank}
use Rattle.dv_time.specs.declared.time.Time.{Time}

-- a time is not past the end of a job's run
abbrev pub IsUpToEnd : Job → Time → Type 0
IsUpToEnd job t = rank job.limit t ≤ end_of job.limit job.horizon

-- each clock is a time of the run, and none is past its end
abbrev pub AreWithin : (horizon limit : ℕ) → List Time → Type 0
AreWithin horizon limit clocks = All (λ (t : Time). IsOfRun limit t × (rank limit t ≤ end_of limit horizon)) clocks

-- The clocks that are shown of a run that was cut, by those up to which its processes are kept: these, where all before the least of them
-- is written. Otherwise more is known than was written, and each clock is the mark, up to which all is written.
abbrev pub shown_clocks : (kept : List Time) → (mark : Time) → List Time
shown_clocks kept mark = if same_time (least_time kept) mark then kept else replicate (length kept) mark
