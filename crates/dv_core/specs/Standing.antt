-- What is so of every world that a driver keeps, and how rounds are made of steps.
use Rattle.std.specs.Prelude.{◌≡◌, ℕ, ◌^◌, ◌<◌, Bool, List, length, map, slice_get, Some}
use Rattle.std.specs.Vec.{vec_len}
use Rattle.dv_bag.specs.declared.state.State.{State}
use Rattle.dv_conservative.specs.Alike.{AreAlike}
use Rattle.dv_conservative.specs.Rounds.{IsDriven}
use Rattle.dv_conservative.specs.Sound.{IsJob}
use Rattle.dv_conservative.specs.World.{Channel, IsRun, Job, World, new_world, promised_on, share_of}
use Rattle.dv_conservative.specs.World as theory
use Rattle.dv_proc.specs.Channels.{meant_channel}
use Rattle.dv_core.specs.Kept.{Kept, link_of}
use Rattle.dv_core.specs.ProcessState.{HasCommitted, ProcessState, StandsAtClock}
use Rattle.dv_core.specs.Worlds.{AllValid, IsAnswered, IsCut, kept_by, shown}
use Rattle.dv_core.specs.declared.state.WorldState.{WorldState}
use Rattle.dv_core.specs.declared.step.Step.{Step}
use Rattle.dv_core.specs.declared.step.Reply.{Reply}

-- steps lead to a world from a new one, of a job that can be run in parts
pub record IsReached (job : Job) (w : World) : Type 0 where
  pub fits : ℕ → State → Bool
  pub sound : IsJob fits job
  pub capacity : ℕ
  pub steps : List (theory.Step × theory.Reply)
  pub run : IsRun job steps (new_world capacity) w

-- What is kept represents a world of a job. It has the job's processes and links. Each process has a share that runs as its share of
-- the job, has components as they are at its clock, and has committed its part. The last window on a link ends at what its sender
-- promised.
pub record StandsFor (job : Job) (k : Kept) : Type 0 where
  pub processes : length k.states ≡ job.processes
  pub flags : length k.stopped ≡ job.processes
  pub links : length k.queued ≡ length job.channels
  pub ends : (l : ℕ) (c : Channel) → slice_get job.channels l ≡ Some c → (c.source < job.processes) × (c.target < job.processes)
  pub shares : (p : ℕ) (x : ProcessState) → slice_get k.states p ≡ Some x → AreAlike x.share (share_of job p)
  pub committed : (p : ℕ) (x : ProcessState) → slice_get k.states p ≡ Some x → HasCommitted x
  pub components : (p : ℕ) (x : ProcessState) → slice_get k.states p ≡ Some x → StandsAtClock x
  pub promised : (l : ℕ) (c : Channel) (x : ProcessState)
      → slice_get job.channels l ≡ Some c → slice_get k.states c.source ≡ Some x
      → x.position.promised l ≡ promised_on (link_of k l (Some c))

-- a world of the code, of valid processes, represents one that steps of its job lead to
pub record Stands {J P : Type 0} (means : J → Job) (state : P → ProcessState) (IsValid : P → Type 0) (w : WorldState J P) : Type 0 where
  pub valid : AllValid IsValid w.processes.items
  pub kept : StandsFor (means w.job) (kept_by state w)
  pub reached : IsReached (means w.job) (shown means state w)
  pub channels : map meant_channel w.channels.items ≡ (means w.job).channels
  pub few : (vec_len w.processes < 2 ^ 32) × (vec_len w.channels < 2 ^ 32)

-- a step with its reply, after which the world is again such a one
pub record IsStepped {J P : Type 0} (means : J → Job) (state : P → ProcessState) (IsValid : P → Type 0) (step : Step) (reply : Reply)
    (before after : WorldState J P) : Type 0 where
  pub answered : IsAnswered means state step reply before after
  pub stands : Stands means state IsValid after

-- Steps lead to a world in which the rest of a list of steps is still to be made: what the rest does from there, the whole list does.
pub record Continues (job : Job) (all rest : List theory.Step) (start now : World) : Type 0 where
  pub driven : (v : World) → IsDriven job rest now v → IsDriven job all start v
  pub cut : (v : World) → IsCut job rest now v → IsCut job all start v
