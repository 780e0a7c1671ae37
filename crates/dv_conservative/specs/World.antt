-- Processes that exchange packets over links, and what may happen to them in any order.
use Rattle.std.specs.Prelude.{◌≡◌, ℕ, suc, ◌<◌, ◌≤◌, ◌⊎◌, Bool, true, false, nat_eq, nat_lt, if◌then◌else◌, List, [], ◌∷◌, ◌++◌}
use Rattle.std.specs.Prelude.{length, slice_get, Option, Some, None}
use Rattle.dv_time.specs.Time.{rank}
use Rattle.dv_time.specs.declared.time.Time.{Time}
use Rattle.dv_bag.specs.Bag.{Counts}
use Rattle.dv_conservative.specs.Flat.{Flat, share}
use Rattle.dv_conservative.specs.Links.{links_between}
use Rattle.dv_conservative.specs.Process.{IsSettled, IsWithin, Outgoing, Packet, Share, clock_after, events_by, first_time}
use Rattle.dv_conservative.specs.Process.{least_clock, packet_of}
use Rattle.dv_conservative.specs.Turn.{Position}

-- the ends of a link between processes
pub record Channel : Type 0 where
  pub source : ℕ
  pub target : ℕ

-- A flat model with what comes from outside at each rank, to a horizon, under a microstep limit; the number of processes, the process of
-- each component, the links between processes, in the order of their numbers, and a response of each.
pub record Job : Type 0 where
  pub limit : ℕ
  pub horizon : ℕ
  pub flat : Flat
  pub outside : ℕ → List Counts
  pub processes : ℕ
  pub owner : ℕ → ℕ
  pub channels : List Channel
  pub responses : ℕ → Option ℕ

-- whether a component is the process's own
abbrev pub owned : Job → ℕ → ℕ → Bool
owned job p k = nat_eq (job.owner k) p

-- the numbers of the links that lead to a process
abbrev pub incoming_from : ℕ → ℕ → List Channel → List ℕ
incoming_from q l [] = []
incoming_from q l (c ∷ cs) = if nat_eq c.target q then l ∷ incoming_from q (suc l) cs else incoming_from q (suc l) cs

-- a link, by its number
abbrev pub outgoing_on : Job → ℕ → Channel → Outgoing
outgoing_on job l c = record { number = l; links = links_between (owned job c.source) (owned job c.target) job.flat.links }

-- the outgoing links of a process
abbrev pub outgoing_from : Job → ℕ → ℕ → List Channel → List Outgoing
outgoing_from job p l [] = []
outgoing_from job p l (c ∷ cs) =
    if nat_eq c.source p then outgoing_on job l c ∷ outgoing_from job p (suc l) cs else outgoing_from job p (suc l) cs

-- the share of a process
abbrev pub share_of : Job → ℕ → Share
share_of job p = record {
  limit = job.limit;
  horizon = job.horizon;
  flat = share (owned job p) job.flat;
  outside = job.outside;
  incoming = incoming_from p 0 job.channels;
  outgoing = outgoing_from job p 0 job.channels;
  response = job.responses p;
}

-- A link with the packets that were put on it, in order: those that its receiver has, those in the queue, and one that its sender has
-- prepared. `capacity` limits the queue.
pub record LinkState : Type 0 where
  pub capacity : ℕ
  pub received : List Packet
  pub queued : List Packet
  pub standing : Option Packet

-- the clock of each process, whether it is stopped, and the state of each link
pub record World : Type 0 where
  pub clock : ℕ → Time
  pub stopped : ℕ → Bool
  pub link : ℕ → LinkState

-- the world at the beginning
abbrev pub new_world : ℕ → World
new_world capacity = record {
  clock = λ p. first_time;
  stopped = λ p. false;
  link = λ l. record { capacity = capacity; received = []; queued = []; standing = None };
}

-- what was received on each link
abbrev pub received_in : World → ℕ → List Packet
received_in w l = (w.link l).received

-- the prepared packet, if there is one
abbrev pub packets_in : Option Packet → List Packet
packets_in None = []
packets_in (Some p) = p ∷ []

-- all packets of a link, in their order
abbrev pub all_of : LinkState → List Packet
all_of x = x.received ++ (x.queued ++ packets_in x.standing)

-- the end of the last window that was prepared on a link
abbrev pub promised_on : LinkState → Time
promised_on x = clock_after first_time (all_of x)

-- what may be done
pub data Step : Type 0 where
  Turn : (process : ℕ) → Step
  Put : (number : ℕ) → Step
  Take : (number : ℕ) → Step
  Stop : (process : ℕ) → Step

-- the answer to a step; all but Done change nothing
pub data Reply : Type 0 where
  Done : Reply
  Refused : Reply
  Stopped : Reply
  Empty : Reply
  Full : Reply
  Memory : Reply

-- the first of the refusals that applies
abbrev pub of_process : Job → World → ℕ → Option Reply
of_process job w p = if nat_lt p job.processes then (if w.stopped p then Some Stopped else None) else Some Refused

abbrev pub put_reply : LinkState → Option Packet → Option Reply
put_reply x None = Some Empty
put_reply x (Some p) = if nat_lt (length x.queued) x.capacity then None else Some Full

abbrev pub take_reply : List Packet → Option Reply
take_reply [] = Some Empty
take_reply (p ∷ ps) = None

abbrev pub of_link : World → (Channel → ℕ) → Option Channel → Option Reply → Option Reply
of_link w actor None reply = Some Refused
of_link w actor (Some c) reply = if w.stopped (actor c) then Some Stopped else reply

abbrev pub refusal : Job → World → Step → Option Reply
refusal job w (Turn p) = of_process job w p
refusal job w (Put l) = of_link w (λ c. c.source) (slice_get job.channels l) (put_reply (w.link l) (w.link l).standing)
refusal job w (Take l) = of_link w (λ c. c.target) (slice_get job.channels l) (take_reply (w.link l).queued)
refusal job w (Stop p) = if nat_lt p job.processes then None else Some Refused

-- a link after its prepared packet was put at the end, and after the front one was taken
abbrev pub after_put : LinkState → LinkState
after_put x = record { capacity = x.capacity; received = x.received; queued = x.queued ++ packets_in x.standing; standing = None }

abbrev pub took_front : LinkState → List Packet → LinkState
took_front x [] = x
took_front x (p ∷ rest) = record { capacity = x.capacity; received = x.received ++ p ∷ []; queued = rest; standing = x.standing }

abbrev pub after_take : LinkState → LinkState
after_take x = took_front x x.queued

abbrev pub with_standing : LinkState → Packet → LinkState
with_standing x p = record { capacity = x.capacity; received = x.received; queued = x.queued; standing = Some p }

-- A packet is prepared: there was none; its window joins the last one, ends after it begins, and where what is sent is settled; its events
-- are those of the local run.
pub record IsPrepared (s : Share) (received : ℕ → List Packet) (out : Outgoing) (before after : LinkState) : Type 0 where
  pub upto : Time
  pub free : before.standing ≡ None
  pub later : rank s.limit (promised_on before) < rank s.limit upto
  pub within : IsWithin s upto
  pub settled : IsSettled s received out upto
  pub made : after ≡ with_standing before (packet_of s (events_by received) out (promised_on before) upto)

-- on an outgoing link of a process
pub record IsPreparedOn (job : Job) (p : ℕ) (w v : World) (l : ℕ) : Type 0 where
  pub channel : Channel
  pub there : slice_get job.channels l ≡ Some channel
  pub own : channel.source ≡ p
  pub prepared : IsPrepared (share_of job p) (received_in w) (outgoing_on job l channel) (w.link l) (v.link l)

-- all clocks but one stay the same, and all links but one
abbrev pub OtherClocksStay : ℕ → World → World → Type 0
OtherClocksStay p w v = (q : ℕ) → nat_eq q p ≡ false → v.clock q ≡ w.clock q

abbrev pub OtherLinksStay : ℕ → World → World → Type 0
OtherLinksStay l w v = (m : ℕ) → nat_eq m l ≡ false → v.link m ≡ w.link m

-- A turn of a process: its clock does not fall and passes neither a channel clock nor the end, and on its outgoing links packets may be
-- prepared.
pub record IsTurn (job : Job) (p : ℕ) (w v : World) : Type 0 where
  pub rises : rank job.limit (w.clock p) ≤ rank job.limit (v.clock p)
  pub within : IsWithin (share_of job p) (v.clock p)
  pub heard : rank job.limit (v.clock p) ≤ least_clock (share_of job p) (received_in w)
  pub others : OtherClocksStay p w v
  pub stopped : v.stopped ≡ w.stopped
  pub links : (l : ℕ) → (v.link l ≡ w.link l) ⊎ IsPreparedOn job p w v l

-- a link becomes another, and everything else stays the same
pub record IsMove (l : ℕ) (after : LinkState) (w v : World) : Type 0 where
  pub link : v.link l ≡ after
  pub others : OtherLinksStay l w v
  pub clock : v.clock ≡ w.clock
  pub stopped : v.stopped ≡ w.stopped

pub record IsStop (p : ℕ) (w v : World) : Type 0 where
  pub stopped : v.stopped p ≡ true
  pub others : (q : ℕ) → nat_eq q p ≡ false → v.stopped q ≡ w.stopped q
  pub clock : v.clock ≡ w.clock
  pub link : v.link ≡ w.link

-- what a step does that is done
abbrev pub Does : Job → Step → World → World → Type 0
Does job (Turn p) w v = IsTurn job p w v
Does job (Put l) w v = IsMove l (after_put (w.link l)) w v
Does job (Take l) w v = IsMove l (after_take (w.link l)) w v
Does job (Stop p) w v = IsStop p w v

-- The reply to a step, and the world after it, if it is not refused: it is not done only if memory runs out. A stop needs no memory.
abbrev pub Answers : Job → Step → Reply → World → World → Type 0
Answers job s Done w v = Does job s w v
Answers job (Stop p) Memory w v = ⊥
Answers job s Memory w v = v ≡ w
Answers job s other w v = ⊥

abbrev pub AnswersBy : Option Reply → Job → Step → Reply → World → World → Type 0
AnswersBy None job s reply w v = Answers job s reply w v
AnswersBy (Some refused) job s reply w v = (reply ≡ refused) × (v ≡ w)

abbrev pub IsStep : Job → Step → Reply → World → World → Type 0
IsStep job s reply w v = AnswersBy (refusal job w s) job s reply w v

-- a run: steps with their replies, one after the other
abbrev pub IsRun : Job → List (Step × Reply) → World → World → Type 0
IsRun job [] w v = v ≡ w
IsRun job (s ∷ ss) w v = (u : World) × IsStep job s.0 s.1 w u × IsRun job ss u v

-- the position of a process
abbrev pub position_in : World → ℕ → Position
position_in w p =
    record { clock = w.clock p; standing = λ l. (w.link l).standing; promised = λ l. promised_on (w.link l) }

-- everything but the position of a process stays the same: the other clocks, the links that are not its outgoing ones, and what is received
-- and queued on its outgoing ones
pub record StaysBeside (job : Job) (p : ℕ) (w v : World) : Type 0 where
  pub clocks : OtherClocksStay p w v
  pub stopped : v.stopped ≡ w.stopped
  pub others : (l : ℕ) (c : Channel) → slice_get job.channels l ≡ Some c → nat_eq c.source p ≡ false → v.link l ≡ w.link l
  pub none : (l : ℕ) → slice_get job.channels l ≡ None → v.link l ≡ w.link l
  pub own : (l : ℕ) (c : Channel) → slice_get job.channels l ≡ Some c → nat_eq c.source p ≡ true
      → v.link l ≡ (let x : LinkState = record {
        capacity = (w.link l).capacity;
        received = (w.link l).received;
        queued = (w.link l).queued;
        standing = (v.link l).standing;
      } in x)
