-- A world of the code as one of the theory: its steps, how its rounds end, and what its processes have committed.
use Rattle.std.specs.Prelude.{◌≡◌, ℕ, ◌+◌, ◌^◌, ◌<◌, ◌≤◌, ◌⊎◌, List, [], ◌∷◌, Bool, length, map, filter, slice_get, Option, Some, None}
use Rattle.dv_time.specs.declared.time.Time.{Time}
use Rattle.dv_conservative.specs.Alike.{AreAlike}
use Rattle.dv_conservative.specs.Rounds.{AreRounds, HadMemory, Progressed, round}
use Rattle.dv_time.specs.Time.{end_of, rank}
use Rattle.dv_bag.specs.declared.state.State.{State}
use Rattle.dv_bag.specs.declared.entry.Entry.{Entry}
use Rattle.dv_bag.specs.declared.entry.Outer.{Outer}
use Rattle.dv_devs.specs.Idle.{LeavesOnlyWhatIsSent}
use Rattle.dv_devs.specs.Network.{components_at, trace_before}
use Rattle.dv_devs.specs.NextTimes.{IsReady}
use Rattle.dv_devs.specs.Outside.{LeavesLinearly, SendsBags}
use Rattle.dv_devs.specs.Parts.{part_before}
use Rattle.dv_conservative.specs.Flat.{kept, numbers, whole}
use Rattle.dv_conservative.specs.Process.{IsWithin, first_time, least_clock}
use Rattle.dv_conservative.specs.Sound.{IsJob}
use Rattle.dv_conservative.specs.True.{AreTrue, united}
use Rattle.dv_conservative.specs.World.{Channel, IsStep, Job, World, Memory, all_of, owned, received_in, share_of}
use Rattle.dv_conservative.specs.World as theory
use Rattle.dv_proc.specs.Channels.{meant_channel}
use Rattle.dv_core.specs.Answers.{meant_reply, meant_step}
use Rattle.dv_core.specs.Kept.{Kept, world_of}
use Rattle.dv_proc.specs.Packets.{meant_packets}
use Rattle.dv_core.specs.ProcessState.{IsNew, ProcessState}
use Rattle.dv_core.specs.declared.step.Ended.{Ended}
use Rattle.dv_core.specs.declared.step.Ended.TheVariants as ended
use Rattle.dv_proc.specs.declared.channel.Channel.{Channel as ChannelOfCode}
use Rattle.dv_core.specs.declared.step.Step.{Step}
use Rattle.dv_core.specs.declared.step.Reply.{Reply}
use Rattle.dv_core.specs.declared.state.WorldState.{WorldState}

abbrev pub kept_by : {J P : Type 0} → (P → ProcessState) → WorldState J P → Kept
kept_by state w = record {
  capacity = w.capacity;
  states = map state w.processes.items;
  stopped = w.stopped.items;
  queued = map (λ q. meant_packets q.items) w.queues.items;
}

-- the world of the theory
abbrev pub shown : {J P : Type 0} → (J → Job) → (P → ProcessState) → WorldState J P → World
shown means state w = world_of (means w.job) (kept_by state w)

-- each process is valid
abbrev pub AllValid : {P : Type 0} → (P → Type 0) → List P → Type 0
AllValid {P} IsValid processes = (p : ℕ) (x : P) → slice_get processes p ≡ Some x → IsValid x

-- a step that was answered
pub record IsAnswered {J P : Type 0} (means : J → Job) (state : P → ProcessState) (step : Step) (reply : Reply)
    (before after : WorldState J P) : Type 0 where
  pub job : after.job ≡ before.job
  pub is_step : IsStep (means before.job) (meant_step step) (meant_reply reply) (shown means state before) (shown means state after)
  pub progressed : Progressed (means before.job) (meant_step step) (meant_reply reply) (shown means state before) (shown means state after)

-- the time at which a run is over
abbrev pub end_time : Job → Time
end_time job = record { tick = job.horizon + 1; micro = 0 }

-- every clock is at the end
abbrev pub IsWhole : Job → World → Type 0
IsWhole job w = (p : ℕ) → p < job.processes → w.clock p ≡ end_time job

-- steps one after the other, up to the first one that memory was refused
abbrev pub IsCut : Job → List theory.Step → World → World → Type 0
IsCut job [] w v = ⊥
IsCut job (s ∷ ss) w v =
    (IsStep job s Memory w v)
    ⊎ ((u : World) × (reply : theory.Reply) × IsStep job s reply w u × HadMemory reply × Progressed job s reply w u × IsCut job ss u v)

-- at most so many whole rounds; if memory is refused, the last one is cut
abbrev pub EndsAs : Job → ℕ → Ended → World → World → Type 0
EndsAs job limit ended.Whole w v = (k : ℕ) × (k ≤ limit) × AreRounds job k w v × IsWhole job v
EndsAs job limit ended.Stalled w v = AreRounds job limit w v × (IsWhole job v → ⊥)
EndsAs job limit ended.Memory w v = (k : ℕ) × (k < limit) × ((u : World) × AreRounds job k w u × IsCut job (round job) u v)

-- a run in which each turn that is done makes progress
abbrev pub IsRunWithProgress : Job → List (theory.Step × theory.Reply) → World → World → Type 0
IsRunWithProgress job [] w v = v ≡ w
IsRunWithProgress job (s ∷ ss) w v =
    (u : World) × IsStep job s.0 s.1 w u × Progressed job s.0 s.1 w u × IsRunWithProgress job ss u v

-- steps with their replies
abbrev pub with_replies : List Step → List Reply → List (theory.Step × theory.Reply)
with_replies [] rs = []
with_replies (s ∷ ss) [] = []
with_replies (s ∷ ss) (r ∷ rs) = (meant_step s, meant_reply r) ∷ with_replies ss rs

-- What holds of every world. All processes are there. Every packet that is prepared, on its way or received is true, and the windows of
-- each link follow one another from 0.0 on. No clock passes a channel clock or the end. Each process has committed exactly its part of the
-- whole run before its clock, and its components are as they are in the whole run just before its clock.
pub record IsTrueToModel (job : Job) (k : Kept) : Type 0 where
  pub count : length k.states ≡ job.processes
  pub packets : (l : ℕ) (c : Channel) → slice_get job.channels l ≡ Some c → AreTrue job l c first_time (all_of ((world_of job k).link l))
  pub clocks : (p : ℕ) (x : ProcessState) → slice_get k.states p ≡ Some x
      → rank job.limit x.position.clock ≤ least_clock (share_of job p) (received_in (world_of job k))
  pub within : (p : ℕ) (x : ProcessState) → slice_get k.states p ≡ Some x → IsWithin (share_of job p) x.position.clock
  pub parts : (p : ℕ) (x : ProcessState) → slice_get k.states p ≡ Some x
      → x.part ≡ part_before (owned job p) job.limit (whole job.flat) job.outside (rank job.limit x.position.clock)
  pub components : (p : ℕ) (x : ProcessState) → slice_get k.states p ≡ Some x
      → x.components ≡ kept (owned job p) (numbers job.flat.members)
      (components_at job.limit (whole job.flat) job.outside (rank job.limit x.position.clock))

-- each process has committed its part of the whole trace
abbrev pub HaveAllParts : Job → List ProcessState → Type 0
HaveAllParts job states =
    (p : ℕ) (x : ProcessState) → slice_get states p ≡ Some x
    → x.part ≡ part_before (owned job p) job.limit (whole job.flat) job.outside (end_of job.limit job.horizon)

abbrev pub outer_of : Option ProcessState → List Outer
outer_of None = []
outer_of (Some x) = x.part.outer

-- The parts together are the whole trace. Each process has the entries of its components. Their output lines, united by time and port,
-- are those of the model, if what leaves the model is linear in what is sent.
pub record AreTheTrace (job : Job) (states : List ProcessState) : Type 0 where
  pub parts : HaveAllParts job states
  pub entries : (p : ℕ) (x : ProcessState) → slice_get states p ≡ Some x
      → x.part.entries
      ≡ filter (λ (e : Entry). owned job p e.component)
      (trace_before job.limit (whole job.flat) job.outside (end_of job.limit job.horizon)).entries
  pub outer : IsReady (whole job.flat) → LeavesOnlyWhatIsSent (whole job.flat) → LeavesLinearly (whole job.flat)
      → SendsBags job.limit (whole job.flat) job.outside (end_of job.limit job.horizon) → ((k : ℕ) → job.owner k < job.processes)
      → united (λ p. outer_of (slice_get states p)) job.processes
      ≡ (trace_before job.limit (whole job.flat) job.outside (end_of job.limit job.horizon)).outer

-- What a world is made of: a job that can be run in parts, its links, and for each of its shares a new and valid process, whose share
-- runs as that one.
pub record AreMadeFor {J P : Type 0} (means : J → Job) (state : P → ProcessState) (IsValid : P → Type 0)
    (job : J) (channels : List ChannelOfCode) (processes : List P) : Type 0 where
  pub valid : AllValid IsValid processes
  pub fits : ℕ → State → Bool
  pub sound : IsJob fits (means job)
  pub links : map meant_channel channels ≡ (means job).channels
  pub count : length processes ≡ (means job).processes
  pub ends : (l : ℕ) (c : Channel) → slice_get (means job).channels l ≡ Some c
      → (c.source < (means job).processes) × (c.target < (means job).processes)
  pub shares : (p : ℕ) (x : P) → slice_get processes p ≡ Some x → AreAlike (state x).share (share_of (means job) p) × IsNew (state x)
  pub few : (length processes < 2 ^ 32) × (length channels < 2 ^ 32)
