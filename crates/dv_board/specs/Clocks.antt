-- Clocks of processes.
use Rattle.std.specs.Prelude.{◌≡◌, ◌<◌, ◌≤◌, false, if◌then◌else◌, List}
use Rattle.std.specs.List.{All, Contains}
use Rattle.dv_time.specs.Time.{is_before, rank}
use Rattle.dv_time.specs.declared.time.Time.{Time}
use Rattle.dv_conservative.specs.World.{Job}

-- times of a job's run, in order
abbrev pub IsNoLater : Job → Time → Time → Type 0
IsNoLater job a b = rank job.limit a ≤ rank job.limit b

abbrev pub IsSooner : Job → Time → Time → Type 0
IsSooner job a b = rank job.limit a < rank job.limit b

-- the later of two times
abbrev pub later : Time → Time → Time
later a b = if is_before a b then b else a

-- the least of some clocks
pub record IsLeast (clock : Time) (clocks : List Time) : Type 0 where
  pub is : Contains clocks clock
  pub none_before : All (λ (c : Time). is_before c clock ≡ false) clocks
