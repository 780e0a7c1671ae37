-- What the processes of a job committed.
use Rattle.std.specs.Prelude.{◌≡◌, ℕ, List, length, slice_get, Some}
use Rattle.std.specs.Vec.{vec_len}
use Rattle.dv_time.specs.Time.{rank}
use Rattle.dv_time.specs.declared.time.Time.{Time}
use Rattle.dv_bag.specs.Part.{PartOf}
use Rattle.dv_devs.specs.Parts.{part_before}
use Rattle.dv_conservative.specs.Flat.{whole}
use Rattle.dv_conservative.specs.Process.{IsWithin}
use Rattle.dv_conservative.specs.World.{Job, World, new_world, owned, share_of}
use Rattle.dv_core.specs.Worlds.{EndsAs, IsRunWithProgress, with_replies}
use Rattle.dv_core.specs.declared.step.Step.{Step}
use Rattle.dv_plan.specs.declared.ran.Committed.{Committed}
use Rattle.dv_plan.specs.declared.ran.Stepped.{Stepped}

-- The clocks of the processes of a world and what each has handed over, by number. Each clock is within the run, and each part is that of
-- the whole run before the clock.
pub record AreOfWorld (job : Job) (w : World) (committed : List PartOf) (times : List Time) : Type 0 where
  pub count : length times ≡ job.processes
  pub clocks : (p : ℕ) (t : Time) → slice_get times p ≡ Some t → w.clock p ≡ t
  pub within : (p : ℕ) (t : Time) → slice_get times p ≡ Some t → IsWithin (share_of job p) t
  pub long : length committed ≡ job.processes
  pub parts : (p : ℕ) (x : PartOf) (t : Time) → slice_get committed p ≡ Some x → slice_get times p ≡ Some t
      → x ≡ part_before (owned job p) job.limit (whole job.flat) job.outside (rank job.limit t)

-- The clocks of the processes of a world, by number. Each is within the run.
pub record AreClocksOf (job : Job) (w : World) (times : List Time) : Type 0 where
  pub count : length times ≡ job.processes
  pub clocks : (p : ℕ) (t : Time) → slice_get times p ≡ Some t → w.clock p ≡ t
  pub within : (p : ℕ) (t : Time) → slice_get times p ≡ Some t → IsWithin (share_of job p) t

-- At most so many rounds of a new world led to these clocks.
pub record HasRun (job : Job) (capacity rounds : ℕ) (c : Committed) : Type 0 where
  pub world : World
  pub ends : EndsAs job rounds c.ended (new_world capacity) world
  pub handed : AreClocksOf job world c.clocks.items

-- The steps of a list, each with its reply, led from a new world to what was handed over, and each turn that was done made progress.
pub record HasStepped (job : Job) (capacity : ℕ) (steps : List Step) (s : Stepped) : Type 0 where
  pub world : World
  pub run : IsRunWithProgress job (with_replies steps s.replies.items) (new_world capacity) world
  pub each : vec_len s.replies ≡ length steps
  pub handed : AreOfWorld job world s.parts.items s.clocks.items
