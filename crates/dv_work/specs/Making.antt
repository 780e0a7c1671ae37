-- Processes as they get the ends of their links.
use Rattle.std.specs.Prelude.{◌≡◌, ℕ, ◌<◌, ◌%◌, ◌^◌, Bool, List, [], length, slice_get, Some}
use Rattle.dv_bag.specs.Part.{nothing}
use Rattle.dv_bag.specs.declared.state.State.{State}
use Rattle.dv_conservative.specs.Alike.{AreAlike}
use Rattle.dv_conservative.specs.Sound.{IsJob}
use Rattle.dv_conservative.specs.World.{Channel, Job, share_of}
use Rattle.dv_core.specs.ProcessState.{IsNew, ProcessState}
use Rattle.dv_core.specs.Worlds.{AllValid}
use Rattle.dv_link.specs.Carries.{IsLinkOf}
use Rattle.dv_link.specs.declared.link.Link.{Link}
use Rattle.dv_record.specs.Told.{Handed}
use Rattle.dv_work.specs.Ends.{IsIn, IsOut, given, taken}
use Rattle.dv_work.specs.Seats.{Sits}
use Rattle.dv_work.specs.declared.seat.In.{In}
use Rattle.dv_work.specs.declared.seat.Out.{Out}
use Rattle.dv_work.specs.declared.seat.Seat.{Seat}

-- before any link is made
abbrev pub no_links : {N : Type 0} → List (Link N)
no_links = []

-- The processes of a job are new and valid, the share of each runs as the job's, and nothing was moved out of them.
pub record AreNew {P : Type 0} (job : Job) (state : P → ProcessState) (handed : P → Handed) (IsValid : P → Type 0) (processes : List P)
    : Type 0 where
  pub valid : AllValid IsValid processes
  pub fits : ℕ → State → Bool
  pub sound : IsJob fits job
  pub count : length processes ≡ job.processes
  pub few : length processes < 2 ^ 32
  pub shares : (p : ℕ) (x : P) → slice_get processes p ≡ Some x → AreAlike (state x).share (share_of job p) × IsNew (state x)
  pub kept : (p : ℕ) (x : P) → slice_get processes p ≡ Some x → (handed x).past ≡ nothing

-- A process that is new, with ends of links whose numbers are below these.
pub record IsSeat {N P : Type 0} (job : Job) (state : P → ProcessState) (handed : P → Handed) (IsValid : P → Type 0)
    (links : List (Link N)) (outs_below ins_below : ℕ) (s : Seat P) : Type 0 where
  pub sits : Sits job state handed IsValid links s
  pub new : IsNew (state s.process)
  pub outs : (i : ℕ) (o : Out) → slice_get s.outs.items i ≡ Some o → o.number < outs_below
  pub ins : (i : ℕ) (e : In) → slice_get s.ins.items i ≡ Some e → e.number < ins_below

-- all processes of a job, by their numbers
pub record AreSeated {N P : Type 0} (job : Job) (state : P → ProcessState) (handed : P → Handed) (IsValid : P → Type 0)
    (links : List (Link N)) (outs_below ins_below : ℕ) (seats : List (Seat P)) : Type 0 where
  pub count : length seats ≡ job.processes
  pub numbers : (p : ℕ) (s : Seat P) → slice_get seats p ≡ Some s → s.number ≡ p
  pub each : (p : ℕ) (s : Seat P) → slice_get seats p ≡ Some s → IsSeat job state handed IsValid links outs_below ins_below s

-- the two ends of a link that has carried nothing
pub record IsNewOut {N : Type 0} (job : Job) (links : List (Link N)) (p : ℕ) (o : Out) : Type 0 where
  pub end : IsOut links o
  pub channel : Channel
  pub there : slice_get job.channels o.number ≡ Some channel
  pub own : channel.source ≡ p
  pub none : given o ≡ []

pub record IsNewIn {N : Type 0} (job : Job) (links : List (Link N)) (e : In) : Type 0 where
  pub end : IsIn links e
  pub channel : IsLinkOf job e.number
  pub none : taken e ≡ []

-- an end names the worker of the process at the other end: process p belongs to worker p mod `workers`
pub record NamesReceiver (job : Job) (workers : ℕ) (o : Out) : Type 0 where
  pub channel : Channel
  pub there : slice_get job.channels o.number ≡ Some channel
  pub receiver : o.receiver ≡ channel.target % workers

pub record NamesSender (job : Job) (workers : ℕ) (e : In) : Type 0 where
  pub channel : Channel
  pub there : slice_get job.channels e.number ≡ Some channel
  pub sender : e.sender ≡ channel.source % workers

-- each end of a process does
pub record NamesWorkers {P : Type 0} (job : Job) (workers : ℕ) (s : Seat P) : Type 0 where
  pub outs : (i : ℕ) (o : Out) → slice_get s.outs.items i ≡ Some o → NamesReceiver job workers o
  pub ins : (i : ℕ) (e : In) → slice_get s.ins.items i ≡ Some e → NamesSender job workers e
