-- What is known of a process that a worker owns, and of what it reports in the end.
use Rattle.std.specs.Prelude.{⊤, ◌≡◌, ◌≢◌, ℕ, ◌<◌, ◌≤◌, nat_eq, Bool, true, false, List, [], ◌++◌, length, slice_get, None, Some}
use Rattle.std.specs.Prelude.{OnErr, OnOk, Result}
use Rattle.std.specs.List.{All, list_any}
use Rattle.std.specs.Option.{is_some}
use Rattle.dv_time.specs.Time.{IsOfRun, rank}
use Rattle.dv_time.specs.declared.time.Time.{Time}
use Rattle.dv_bag.specs.declared.state.State.{State}
use Rattle.dv_devs.specs.Parts.{part_before}
use Rattle.dv_conservative.specs.Alike.{AreAlike}
use Rattle.dv_conservative.specs.Flat.{whole}
use Rattle.dv_conservative.specs.Process.{IsWithin, Packet, clock_after, first_time, least_clock}
use Rattle.dv_conservative.specs.Sound.{IsJob}
use Rattle.dv_conservative.specs.True.{AreTrue}
use Rattle.dv_conservative.specs.World.{Channel, Job, owned, packets_in, share_of}
use Rattle.dv_board.specs.Clocks.{IsNoLater}
use Rattle.dv_core.specs.ProcessState.{HasCommitted, ProcessState}
use Rattle.dv_link.specs.Carries.{IsLinkOf}
use Rattle.dv_link.specs.declared.link.Link.{Link}
use Rattle.dv_record.specs.Told.{Handed}
use Rattle.dv_work.specs.Ends.{IsIn, IsOut, given, taken}
use Rattle.dv_work.specs.declared.seat.In.{In}
use Rattle.dv_work.specs.declared.seat.Out.{Out}
use Rattle.dv_work.specs.declared.seat.Seat.{Seat}

-- A process of a job received only true packets. Its share runs as the job's, it has committed what its local run has, and its clock
-- is not past a channel clock or the end.
pub record IsFedTruly (job : Job) (p : ℕ) (x : ProcessState) : Type 0 where
  pub fits : ℕ → State → Bool
  pub sound : IsJob fits job
  pub there : p < job.processes
  pub alike : AreAlike x.share (share_of job p)
  pub committed : HasCommitted x
  pub truth : (l : ℕ) (c : Channel) → slice_get job.channels l ≡ Some c → AreTrue job l c first_time (x.received l)
  pub heard : rank job.limit x.position.clock ≤ least_clock (share_of job p) x.received
  pub within : IsWithin (share_of job p) x.position.clock

-- all packets that were prepared for a link: those that its end got, and the one that is left
abbrev pub prepared : ProcessState → Out → List Packet
prepared x o = given o ++ packets_in (x.position.standing o.number)

-- the next packet for an end is a null message, and no packet is held
pub record HasNull (x : ProcessState) (o : Out) : Type 0 where
  pub free : o.held ≡ None
  pub packet : Packet
  pub stands : x.position.standing o.number ≡ Some packet
  pub silent : packet.events ≡ []

-- what a process prepares for a link that leads away from it is true, and each window begins where the one before it ends
pub record Gives (job : Job) (p : ℕ) (x : ProcessState) (o : Out) : Type 0 where
  pub channel : Channel
  pub there : slice_get job.channels o.number ≡ Some channel
  pub own : channel.source ≡ p
  pub truth : AreTrue job o.number channel first_time (prepared x o)
  pub promised : x.position.promised o.number ≡ clock_after first_time (prepared x o)

-- all that a process prepared for an end was put, unless the end holds a packet
abbrev pub HasTold : ProcessState → Out → Type 0
HasTold x o = o.held ≡ None → x.position.standing o.number ≡ None

-- this holds of the first n ends of a process
abbrev pub HasToldAtFirst : {P : Type 0} → (P → ProcessState) → ℕ → Seat P → Type 0
HasToldAtFirst state n s = (i : ℕ) (o : Out) → i < n → slice_get s.outs.items i ≡ Some o → HasTold (state s.process) o

-- this holds of all ends of a process
abbrev pub HasToldAll : {P : Type 0} → (P → ProcessState) → Seat P → Type 0
HasToldAll state s = HasToldAtFirst state (length s.outs.items) s

-- whether an end holds a packet
abbrev pub holds_packet : Out → Bool
holds_packet o = is_some o.held

-- whether a packet is prepared, and not put, for the link of an end
abbrev pub stands_in : ProcessState → Out → Bool
stands_in x o = is_some (x.position.standing o.number)

-- no end of a process holds a packet
abbrev pub HoldsNone : {P : Type 0} → Seat P → Type 0
HoldsNone s = list_any holds_packet s.outs.items ≡ false

-- the end at an index held a packet, and was of the same link
pub record HeldAt {P : Type 0} (before : Seat P) (index : ℕ) (o : Out) : Type 0 where
  pub end : Out
  pub there : slice_get before.outs.items index ≡ Some end
  pub same_link : end.number ≡ o.number
  pub holds : holds_packet end ≡ true

-- kinds of packets: any, a null message, and one with events
abbrev pub IsAny : Packet → Type 0
IsAny p = ⊤

abbrev pub IsNull : Packet → Type 0
IsNull p = p.events ≡ []

abbrev pub HasEvents : Packet → Type 0
HasEvents p = p.events ≢ []

-- No packet of a kind is kept back at an index: if one is left afterwards, the end there held a packet before.
abbrev pub KeepsNoneBackAt : {P : Type 0} → (Packet → Type 0) → (P → ProcessState) → ℕ → (before after : Seat P) → Type 0
KeepsNoneBackAt IsOfKind state index before after =
    (o : Out) (p : Packet) → slice_get after.outs.items index ≡ Some o → (state after.process).position.standing o.number ≡ Some p
    → IsOfKind p → HeldAt before index o

-- none is kept back at any index
abbrev pub KeepsNoneBack : {P : Type 0} → (Packet → Type 0) → (P → ProcessState) → (before after : Seat P) → Type 0
KeepsNoneBack IsOfKind state before after = (i : ℕ) → KeepsNoneBackAt IsOfKind state i before after

-- this holds of each of several processes
abbrev pub EachKeepsNoneBack : {P : Type 0} → (Packet → Type 0) → (P → ProcessState) → (before after : List (Seat P)) → Type 0
EachKeepsNoneBack {P} IsOfKind state before after =
    (k : ℕ) (s t : Seat P) → slice_get before k ≡ Some s → slice_get after k ≡ Some t → KeepsNoneBack IsOfKind state s t

-- the ends at other indices are as before
abbrev pub OthersStay : {P : Type 0} → ℕ → (before after : Seat P) → Type 0
OthersStay index before after = (i : ℕ) → nat_eq i index ≡ false → slice_get after.outs.items i ≡ slice_get before.outs.items i

-- each packet that is prepared for a link afterwards was so before
abbrev pub NoneIsNew : (before after : ProcessState) → Type 0
NoneIsNew before after =
    (l : ℕ) (p : Packet) → after.position.standing l ≡ Some p → before.position.standing l ≡ Some p

-- the ends of links that lead away, no two of one link
pub record AreOuts {N : Type 0} (job : Job) (links : List (Link N)) (p : ℕ) (x : ProcessState) (outs : List Out) : Type 0 where
  pub ends : (i : ℕ) (o : Out) → slice_get outs i ≡ Some o → IsOut links o
  pub gives : (i : ℕ) (o : Out) → slice_get outs i ≡ Some o → Gives job p x o
  pub apart : (i j : ℕ) (o q : Out) → slice_get outs i ≡ Some o → slice_get outs j ≡ Some q → o.number ≡ q.number → i ≡ j

-- the ends of links that lead to a process, no two of one link: the process received what was taken
pub record AreIns {N : Type 0} (job : Job) (links : List (Link N)) (x : ProcessState) (ins : List In) : Type 0 where
  pub ends : (i : ℕ) (e : In) → slice_get ins i ≡ Some e → IsIn links e
  pub channels : (i : ℕ) (e : In) → slice_get ins i ≡ Some e → IsLinkOf job e.number
  pub received : (i : ℕ) (e : In) → slice_get ins i ≡ Some e → x.received e.number ≡ taken e
  pub apart : (i j : ℕ) (e d : In) → slice_get ins i ≡ Some e → slice_get ins j ≡ Some d → e.number ≡ d.number → i ≡ j

-- What a process has handed over is its part of the whole run before a time of the run, which is not past its clock.
pub record HasHandedOver (job : Job) (p : ℕ) (x : ProcessState) (h : Handed) (upto : Time) : Type 0 where
  pub of_run : IsOfRun job.limit upto
  pub order : IsNoLater job upto x.position.clock
  pub past : h.past ≡ part_before (owned job p) job.limit (whole job.flat) job.outside (rank job.limit upto)

-- a process with its ends
pub record Sits {N P : Type 0} (job : Job) (state : P → ProcessState) (handed : P → Handed) (IsValid : P → Type 0)
    (links : List (Link N)) (s : Seat P) : Type 0 where
  pub valid : IsValid s.process
  pub fed : IsFedTruly job s.number (state s.process)
  pub outs : AreOuts job links s.number (state s.process) s.outs.items
  pub ins : AreIns job links (state s.process) s.ins.items
  pub posted : HasHandedOver job s.number (state s.process) (handed s.process) s.posted

-- what a process has committed is its part of the whole run before its clock
pub record Reports {P : Type 0} (job : Job) (state : P → ProcessState) (handed : P → Handed) (IsValid : P → Type 0) (s : Seat P)
    : Type 0 where
  pub valid : IsValid s.process
  pub there : s.number < job.processes
  pub within : IsWithin (share_of job s.number) (state s.process).position.clock
  pub part : (state s.process).part
      ≡ part_before (owned job s.number) job.limit (whole job.flat) job.outside (rank job.limit (state s.process).position.clock)
  pub posted : HasHandedOver job s.number (state s.process) (handed s.process) s.posted

-- a process after a step of its worker: it sits, or reports if the step failed
pub record SitsIfOk {N P T E : Type 0} (job : Job) (state : P → ProcessState) (handed : P → Handed) (IsValid : P → Type 0)
    (links : List (Link N)) (s : Seat P) (result : Result T E) : Type 0 where
  pub ok : OnOk result (Sits job state handed IsValid links s)
  pub err : OnErr result (Reports job state handed IsValid s)

-- Processes after a post, which changes nothing that their worker waits for: all sit, and if all had told all, or held no packet, all
-- still do.
pub record StaySeated {N P : Type 0} (job : Job) (state : P → ProcessState) (handed : P → Handed) (IsValid : P → Type 0)
    (links : List (Link N)) (before after : List (Seat P)) : Type 0 where
  pub sits : All (Sits job state handed IsValid links) after
  pub told : All (HasToldAll state) before → All (HasToldAll state) after
  pub put : All HoldsNone before → All HoldsNone after

-- all that a process committed was moved out of it, and nothing else changed
pub record IsEmptied {P : Type 0} (state : P → ProcessState) (handed : P → Handed) (IsValid : P → Type 0) (before after : Seat P)
    : Type 0 where
  pub valid : IsValid after.process
  pub number : after.number ≡ before.number
  pub outs : after.outs ≡ before.outs
  pub ins : after.ins ≡ before.ins
  pub state_is : state after.process ≡ state before.process
  pub posted : after.posted ≡ (state before.process).position.clock
  pub past : (handed after.process).past ≡ (state before.process).part
