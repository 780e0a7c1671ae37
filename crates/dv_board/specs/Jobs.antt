-- What the processes of a job commit, what all of them do, and what merging asks of the job.
use Rattle.std.specs.Prelude.{ℕ, ◌<◌}
use Rattle.dv_time.specs.Time.{rank}
use Rattle.dv_time.specs.declared.time.Time.{Time}
use Rattle.dv_bag.specs.Part.{PartOf}
use Rattle.dv_devs.specs.Cuts.{RiseFrom, part_between, trace_between}
use Rattle.dv_devs.specs.Idle.{LeavesOnlyWhatIsSent}
use Rattle.dv_devs.specs.NextTimes.{IsReady}
use Rattle.dv_devs.specs.Outside.{LeavesLinearly, SendsBags}
use Rattle.dv_conservative.specs.Flat.{whole}
use Rattle.dv_conservative.specs.World.{Job, owned}

-- what a process commits from one time on and before another
abbrev pub committed : Job → ℕ → Time → Time → PartOf
committed job p from upto =
    part_between (owned job p) job.limit (whole job.flat) job.outside (rank job.limit from) (rank job.limit upto)

-- the trace from one time on and before another
abbrev pub trace : Job → Time → Time → PartOf
trace job from upto = trace_between job.limit (whole job.flat) job.outside (rank job.limit from) (rank job.limit upto)

-- A job whose processes' parts, merged, are its trace: its network is ready, with its components by number; what leaves was sent
-- by a component, and is linear in what is sent; bags are sent; and each component is that of a process.
pub record IsMergeable (job : Job) : Type 0 where
  pub ready : IsReady (whole job.flat)
  pub rise : RiseFrom 0 (whole job.flat).numbers
  pub outputs : LeavesOnlyWhatIsSent (whole job.flat)
  pub linear : LeavesLinearly (whole job.flat)
  pub bags : (n : ℕ) → SendsBags job.limit (whole job.flat) job.outside n
  pub owned : (k : ℕ) → job.owner k < job.processes
