-- What the code does to a world, as steps of the theory.
use Rattle.std.proofs.Common.{◌≡◌, ℕ, ◌^◌, ◌<◌, ◌≤◌, Bool, true, false, if◌then◌else◌, nat_lt, List, [], ◌∷◌, ◌++◌, length, map}
use Rattle.std.proofs.Common.{get_or, Option, Some, None, refl, sym, ap, subst, ◌∙◌, arith}
use Rattle.std.specs.List.{slice_get}
use Rattle.std.proofs.Math.ListN.{set}
use Rattle.std.proofs.lemmas.List.{length-map, map-append}
use Rattle.std.proofs.lemmas.Option.{slice_get-map, slice_get_read, slice_get_within}
use Rattle.std.specs.Option.{option_map}
use Rattle.std.proofs.lemmas.Bool.Decides.{nat_tests}
use Rattle.dv_conservative.specs.Rounds.{Progressed}
use Rattle.dv_conservative.specs.World.{Channel, IsStep, Job, LinkState, World, new_world, of_process, put_reply, received_in}
use Rattle.dv_conservative.specs.World.{refusal, share_of, take_reply, Done, Empty, Full, Memory, Refused, Stopped, Turn, Put}
use Rattle.dv_conservative.specs.World.{Take, Stop}
use Rattle.dv_conservative.specs.World as theory
use Rattle.dv_proc.specs.Channels.{meant_channel}
use Rattle.dv_core.specs.Answers.{meant_reply, meant_step}
use Rattle.dv_core.specs.Kept.{Kept, is_stopped, link_of, queue_of, received_of, world_of}
use Rattle.dv_proc.specs.Packets.{meant_packet, meant_packets}
use Rattle.dv_proc.specs.declared.packet.Packet.{Packet as PacketOfCode}
use Rattle.dv_proc.specs.declared.channel.Channel.{Channel as ChannelOfCode}
use Rattle.std.specs.declared.collections.VecDeque.{VecDeque}
use Rattle.dv_core.specs.ProcessState.{IsReceived, IsSent, IsTurned, ProcessState}
use Rattle.dv_core.specs.Worlds.{AllValid, kept_by, shown}
use Rattle.dv_core.specs.Standing.{IsReached, IsStepped, Stands, StandsFor}
use Rattle.dv_core.specs.declared.step.Step.{Step}
use Rattle.dv_core.specs.declared.step.Step.TheVariants as step
use Rattle.dv_core.specs.declared.step.Reply.TheVariants as reply
use Rattle.std.specs.Vec.{vec_len, with_item}
use Rattle.std.specs.VecDeque.{deque_len}
use Rattle.std.specs.declared.vec.Vec.{Vec}
use Rattle.std.specs.declared.alloc.Global.{Global}
use Rattle.dv_conservative.specs.Process.{Packet, refusal_of}
use Rattle.dv_conservative.proofs.Accepted.{accepted}
use Rattle.dv_conservative.proofs.SameRuns.{same_refusal}
use Rattle.dv_conservative.proofs.Holding.{holds_after, holds_at_first}
use Rattle.dv_core.proofs.Alike.{refusal_alike}
use Rattle.dv_proc.specs.declared.incoming.Refused.{Refused as RefusedOfCode}
use Rattle.dv_proc.specs.declared.incoming.Refused.TheVariants as why
use Rattle.dv_proc.specs.Refusals.{meant_refusal}
use Rattle.dv_conservative.specs.Turn.{Turned}
use Rattle.dv_core.specs.declared.step.Reply.{Reply}
use Rattle.dv_core.specs.declared.state.WorldState.{WorldState}
use Rattle.dv_core.proofs.Lookups.{map_set, set_each, set_stays}
use Rattle.dv_core.proofs.Moves.{front_link, put_moves, put_stands, stop_stands, stop_stops, take_moves, take_stands, with_both}
use Rattle.dv_core.proofs.Moves.{with_stopped}
use Rattle.dv_core.proofs.Refusals.{has_room, is_full, nothing_queued, nothing_stands, put_if, some_queued, take_if}
use Rattle.dv_core.proofs.Standing.{link_is, reached_by}
use Rattle.dv_core.proofs.Turns.{is_granted, is_refused, turned_progress, turned_stands, turned_step, with_state}

module _ {X Y : Type 0} (f : X → Y) (xs : List X) (n i : ℕ) (x : X) (long : n ≡ length xs) (within : i < n) (is : x ≡ get_or xs i x) where
  -- what is seen at an index
  pub seen_at : slice_get (map f xs) i ≡ Some (f x)
  seen_at = slice_get-map f xs i ∙ ap (option_map f) (slice_get_read xs n i x long within is)

  -- and after a write that cannot be seen
  pub unseen_write : (y : X) → f y ≡ f x → map f (set xs i y) ≡ map f xs
  unseen_write y same = map_set f xs i y ∙ ap (set (map f xs) i) same ∙ set_stays (map f xs) i (f x) seen_at

-- a process that is there and is not stopped may act
pub may_act : (job : Job) (k : Kept) (p : ℕ) → StandsFor job k → p < length k.states → slice_get k.stopped p ≡ Some false →
    of_process job (world_of job k) p ≡ None
may_act job k p stands within flag =
    let count = stands.processes in
    let there : p < job.processes = omega arith in
    let known : nat_lt p job.processes ≡ true = grind (arith, nat_tests) in
    ap (λ (t : Bool). if t then (if is_stopped (slice_get k.stopped p) then Some Stopped else None) else Some Refused) known
    ∙ ap (λ (o : Option Bool). if is_stopped o then Some Stopped else None) flag

module _ {J P : Type 0} {IsValid : P → Type 0} {means : J → Job} {state : P → ProcessState} (before after : WorldState J P)
    (stands : Stands means state IsValid before)
    (job : after.job ≡ before.job) (channels : after.channels ≡ before.channels)
    (count : vec_len after.processes ≡ vec_len before.processes) (valid : AllValid IsValid after.processes.items) (k : Kept)
    (kept : kept_by state after ≡ k) where
  same_job : means after.job ≡ means before.job
  same_job = ap means job

  abbrev v : World
  v = world_of (means before.job) k

  is_shown : shown means state after ≡ v
  is_shown = ap (λ (j : Job). world_of j (kept_by state after)) same_job ∙ ap (world_of (means before.job)) kept

  pub stepped : (step : Step) (reply : Reply) →
      IsStep (means before.job) (meant_step step) (meant_reply reply) (shown means state before) v →
      Progressed (means before.job) (meant_step step) (meant_reply reply) (shown means state before) v → StandsFor (means before.job) k →
      IsStepped means state IsValid step reply before after
  stepped step reply made progressed still = record {
    answered = record {
      job = job;
      is_step = subst (λ (x : World). IsStep (means before.job) (meant_step step) (meant_reply reply) (shown means state before) x)
          (sym is_shown) made;
      progressed = subst (λ (x : World). Progressed (means before.job) (meant_step step) (meant_reply reply) (shown means state before) x)
          (sym is_shown) progressed;
    };
    stands = record {
      valid = valid;
      kept = subst (λ (j : Job). StandsFor j (kept_by state after)) (sym same_job) (subst (StandsFor (means before.job)) (sym kept) still);
      reached = subst (λ (j : Job). IsReached j (shown means state after)) (sym same_job)
          (subst (IsReached (means before.job)) (sym is_shown)
          (reached_by (means before.job) (shown means state before) v (meant_step step) (meant_reply reply) stands.reached made));
      channels = ap (λ (v : Vec ChannelOfCode Global). map meant_channel v.items) channels ∙ stands.channels
          ∙ sym (ap (λ (j : Job). j.channels) same_job);
      few = (
        subst (λ (n : ℕ). n < 2 ^ 32) (sym count) stands.few.0,
        subst (λ (v : Vec ChannelOfCode Global). vec_len v < 2 ^ 32) (sym channels) stands.few.1,
      );
    };
  }

-- what stands at an index that was read
pub read_at : {X : Type 0} (v : Vec X Global) (i : ℕ) (x : X) → i < vec_len v → x ≡ get_or v.items i x → slice_get v.items i ≡ Some x
read_at v i x within is = slice_get_read v.items (vec_len v) i x v.ok.0 within is

module _ {X Y : Type 0} (f : X → Y) (xs : List X) (i : ℕ) (x : X) (here : slice_get xs i ≡ Some x) where
  pub shown_at : slice_get (map f xs) i ≡ Some (f x)
  shown_at = slice_get-map f xs i ∙ ap (option_map f) here

  pub hidden_write : (y : X) → f y ≡ f x → map f (set xs i y) ≡ map f xs
  hidden_write y same = map_set f xs i y ∙ ap (set (map f xs) i) same ∙ set_stays (map f xs) i (f x) shown_at

module _ {J P : Type 0} {IsValid : P → Type 0} {means : J → Job} {state : P → ProcessState} (w : WorldState J P)
    (stands : Stands means state IsValid w) where
  -- there are as many flags as processes
  pub as_many : vec_len w.stopped ≡ vec_len w.processes
  as_many =
      w.stopped.ok.0 ∙ stands.kept.flags ∙ sym stands.kept.processes ∙ length-map w.processes.items state ∙ sym w.processes.ok.0

  -- the ends of a link are processes
  ends_within : (l : ℕ) (c : ChannelOfCode) → slice_get w.channels.items l ≡ Some c →
      (c.source < vec_len w.processes) × (c.target < vec_len w.processes)
  ends_within l c channel =
      let there = ap (λ (cs : List Channel). slice_get cs l) (sym stands.channels) ∙ shown_at meant_channel w.channels.items l c channel in
      let ends = stands.kept.ends l (meant_channel c) there in
      let count = stands.kept.processes in
      let seen = length-map w.processes.items state in
      let long = w.processes.ok.0 in
      (omega arith, omega arith)

  -- there are as many queues as links
  queue_within : (l : ℕ) → l < vec_len w.channels → l < vec_len w.queues
  queue_within l lt =
      let count = stands.kept.links in
      let seen = length-map w.queues.items (λ q. meant_packets q.items) in
      let same = ap length stands.channels in
      let other = length-map w.channels.items meant_channel in
      let long = w.channels.ok.0 in
      let many = w.queues.ok.0 in
      omega arith

kept_alike : (capacity : ℕ) (a b : List ProcessState) (flags : List Bool) (q r : List (List Packet)) → a ≡ b → q ≡ r →
    (let one : Kept = record { capacity = capacity; states = a; stopped = flags; queued = q } in one)
    ≡ (let other : Kept = record { capacity = capacity; states = b; stopped = flags; queued = r } in other)
kept_alike capacity a b flags q r one two =
    ap (λ (x : List ProcessState). let k : Kept = record { capacity = capacity; states = x; stopped = flags; queued = q } in k) one
    ∙ ap (λ (x : List (List Packet)). let k : Kept = record { capacity = capacity; states = b; stopped = flags; queued = x } in k) two

-- the worlds that steps leave
abbrev pub after_turn : {J P : Type 0} → WorldState J P → ℕ → P → WorldState J P
after_turn w p y = record {
  job = w.job;
  channels = w.channels;
  processes = with_item w.processes p y;
  stopped = w.stopped;
  queues = w.queues;
  capacity = w.capacity;
}

module _ {J P : Type 0} {IsValid : P → Type 0} {means : J → Job} {state : P → ProcessState} (w : WorldState J P)
    (stands : Stands means state IsValid w) where
  abbrev job : Job
  job = means w.job

  abbrev k : Kept
  k = kept_by state w

  module _ (p : ℕ) (x y : P) (here : slice_get w.processes.items p ≡ Some x) (running : slice_get w.stopped.items p ≡ Some false)
      (valid : IsValid y) where
    all_valid : AllValid IsValid (set w.processes.items p y)
    all_valid = set_each (λ q z. IsValid z) w.processes.items p x y here stands.valid valid

    seen : slice_get k.states p ≡ Some (state x)
    seen = shown_at state w.processes.items p x here

    free : of_process job (world_of job k) p ≡ None
    free = may_act job k p stands.kept (slice_get_within k.states p (state x) seen) running

    pub turn_refused : state y ≡ state x → IsStepped means state IsValid (step.Turn p) reply.Memory w (after_turn w p y)
    turn_refused same =
        stepped w (after_turn w p y) stands refl refl refl all_valid k
        (kept_alike w.capacity (map state (set w.processes.items p y)) k.states k.stopped k.queued k.queued
        (hidden_write state w.processes.items p x here y same) refl)
        (step.Turn p) reply.Memory (is_granted job (Turn p) Memory (world_of job k) (world_of job k) free refl) tt stands.kept

    pub turn_done : (answer : Turned) → IsTurned answer (state x) (state y)
        → IsStepped means state IsValid (step.Turn p) reply.Done w (after_turn w p y)
    turn_done answer h =
        stepped w (after_turn w p y) stands refl refl refl all_valid (with_state k p (state y))
        (kept_alike w.capacity (map state (set w.processes.items p y)) (set k.states p (state y)) k.stopped k.queued k.queued
        (map_set state w.processes.items p y) refl)
        (step.Turn p) reply.Done
        (turned_step job k stands.kept p (state x) (state y) seen h.share h.received h.committed h.components h.turn stands.reached free)
        (turned_progress job k stands.kept p (state x) (state y) seen h.share h.received h.committed h.components h.turn stands.reached)
        (turned_stands job k stands.kept p (state x) (state y) seen h.share h.received h.committed h.components h.turn)

-- where a process was changed, and that cannot be seen
module _ {J P : Type 0} {IsValid : P → Type 0} {means : J → Job} {state : P → ProcessState} (w : WorldState J P)
    (stands : Stands means state IsValid w) (p : ℕ) (x y : P) (here : slice_get w.processes.items p ≡ Some x) (valid : IsValid y)
    (same : state y ≡ state x) where
  pub unseen : kept_by state (after_turn w p y) ≡ kept_by state w
  unseen =
      let now = kept_by state w in
      kept_alike w.capacity (map state (set w.processes.items p y)) now.states now.stopped now.queued now.queued
      (hidden_write state w.processes.items p x here y same) refl

  pub unseen_stands : Stands means state IsValid (after_turn w p y)
  unseen_stands = record {
    valid = set_each (λ q z. IsValid z) w.processes.items p x y here stands.valid valid;
    kept = subst (StandsFor (means w.job)) (sym unseen) stands.kept;
    reached = subst (λ (k : Kept). IsReached (means w.job) (world_of (means w.job) k)) (sym unseen) stands.reached;
    channels = stands.channels;
    few = stands.few;
  }

abbrev pub after_move : {J P : Type 0} → WorldState J P → Vec P Global → Vec (VecDeque PacketOfCode Global) Global → WorldState J P
after_move w processes queues = record {
  job = w.job;
  channels = w.channels;
  processes = processes;
  stopped = w.stopped;
  queues = queues;
  capacity = w.capacity;
}

abbrev packets_of : VecDeque PacketOfCode Global → List Packet
packets_of q = meant_packets q.items

module _ {J P : Type 0} {IsValid : P → Type 0} {means : J → Job} {state : P → ProcessState} (w : WorldState J P)
    (stands : Stands means state IsValid w) where
  -- where nothing can be seen to change
  same_world : (step : Step) (refused : Reply) → refusal (means w.job) (shown means state w) (meant_step step) ≡ Some (meant_reply refused)
      → Progressed (means w.job) (meant_step step) (meant_reply refused) (shown means state w) (shown means state w)
      → IsStepped means state IsValid step refused w w
  same_world step refused e progressed =
      stepped w w stands refl refl refl stands.valid (kept_by state w) refl step refused
      (is_refused (means w.job) (meant_step step) (meant_reply refused) (shown means state w) (shown means state w) e refl) progressed
      stands.kept

module _ {J P : Type 0} {IsValid : P → Type 0} {means : J → Job} {state : P → ProcessState} (w : WorldState J P)
    (stands : Stands means state IsValid w)
    (l : ℕ) (c : ChannelOfCode) (within : l < vec_len w.channels) (is : c ≡ get_or w.channels.items l c) where
  abbrev the_job : Job
  the_job = means w.job

  channel : slice_get w.channels.items l ≡ Some c
  channel = read_at w.channels l c within is

  pub ends : (c.source < vec_len w.processes) × (c.target < vec_len w.processes)
  ends = ends_within w stands l c channel

  pub flagged : (c.source < vec_len w.stopped) × (c.target < vec_len w.stopped)
  flagged =
      let flags = as_many w stands in
      let both = ends in
      (omega (arith, both.0), omega (arith, both.1))

  flag_at : (p : ℕ) → p < vec_len w.processes → (b flag : Bool) → b ≡ get_or w.stopped.items p b → b ≡ flag
      → slice_get w.stopped.items p ≡ Some flag
  flag_at p lt b flag read e =
      let flags = as_many w stands in
      subst (λ (f : Bool). slice_get w.stopped.items p ≡ Some f) e (read_at w.stopped p b (omega arith) read)

  abbrev kept : Kept
  kept = kept_by state w

  pub channel_there : slice_get the_job.channels l ≡ Some (meant_channel c)
  channel_there = ap (λ (cs : List Channel). slice_get cs l) (sym stands.channels) ∙ shown_at meant_channel w.channels.items l c channel

  pub put_stopped : (b : Bool) → b ≡ get_or w.stopped.items c.source b → b ≡ true
      → IsStepped means state IsValid (step.Put l) reply.Stopped w w
  put_stopped b read e =
      same_world w stands (step.Put l) reply.Stopped
      (put_if the_job kept l (meant_channel c) channel_there true (flag_at c.source ends.0 b true read e)) tt

  pub take_stopped : (b : Bool) → b ≡ get_or w.stopped.items c.target b → b ≡ true
      → IsStepped means state IsValid (step.Take l) reply.Stopped w w
  take_stopped b read e =
      same_world w stands (step.Take l) reply.Stopped
      (take_if the_job kept l (meant_channel c) channel_there true (flag_at c.target ends.1 b true read e)) tt

  queue_at : (queue : VecDeque PacketOfCode Global) → queue ≡ get_or w.queues.items l queue → slice_get w.queues.items l ≡ Some queue
  queue_at queue read = read_at w.queues l queue (queue_within w stands l within) read

  queue_there : (queue : VecDeque PacketOfCode Global) → queue ≡ get_or w.queues.items l queue
      → slice_get kept.queued l ≡ Some (packets_of queue)
  queue_there queue read = shown_at packets_of w.queues.items l queue (queue_at queue read)

  -- a queue with the same packets is the same to see
  same_queue : (queue next : VecDeque PacketOfCode Global) → queue ≡ get_or w.queues.items l queue → next.items ≡ queue.items →
      map packets_of (set w.queues.items l next) ≡ kept.queued
  same_queue queue next read same = hidden_write packets_of w.queues.items l queue (queue_at queue read) next (ap meant_packets same)

  -- where only a queue was written, and that cannot be seen
  still_world : (reply : Reply) (queue next : VecDeque PacketOfCode Global) → queue ≡ get_or w.queues.items l queue
      → next.items ≡ queue.items →
      (step : Step) → IsStep the_job (meant_step step) (meant_reply reply) (world_of the_job kept) (world_of the_job kept)
      → Progressed the_job (meant_step step) (meant_reply reply) (world_of the_job kept) (world_of the_job kept)
      → IsStepped means state IsValid step reply w (after_move w w.processes (with_item w.queues l next))
  still_world reply queue next read same step made progressed =
      stepped w (after_move w w.processes (with_item w.queues l next)) stands refl refl refl stands.valid kept
      (kept_alike w.capacity kept.states kept.states kept.stopped (map packets_of (set w.queues.items l next)) kept.queued refl
      (same_queue queue next read same))
      step reply made progressed stands.kept

  -- a put, by what was read of the sender
  module _ (b : Bool) (flag : b ≡ get_or w.stopped.items c.source b) (goes : b ≡ false)
      (x : P) (sender : x ≡ get_or w.processes.items c.source x) where
    here : slice_get w.processes.items c.source ≡ Some x
    here = read_at w.processes c.source x ends.0 sender

    sender_seen : slice_get kept.states c.source ≡ Some (state x)
    sender_seen = shown_at state w.processes.items c.source x here

    pub sender_valid : IsValid x
    sender_valid = stands.valid c.source x here

    running : (reply : Option theory.Reply) → put_reply (link_of kept l (Some (meant_channel c)))
        (link_of kept l (Some (meant_channel c))).standing ≡ reply →
        refusal the_job (world_of the_job kept) (Put l) ≡ reply
    running reply e = put_if the_job kept l (meant_channel c) channel_there false (flag_at c.source ends.0 b false flag goes) ∙ e

    -- what is read twice is the same
    pub same_process : (y : P) → y ≡ get_or w.processes.items c.source y → x ≡ y
    same_process y again = let at = read_at w.processes c.source y ends.0 again in let was = here in cc

    pub put_empty : (state x).position.standing l ≡ None → IsStepped means state IsValid (step.Put l) reply.Empty w w
    put_empty none =
        same_world w stands (step.Put l) reply.Empty
        (running (Some Empty) (nothing_stands the_job kept l (meant_channel c) channel_there (state x) sender_seen none)) tt

    module _ (queue : VecDeque PacketOfCode Global) (read : queue ≡ get_or w.queues.items l queue) (p : Packet)
        (some : (state x).position.standing l ≡ Some p) where
      pub put_full : w.capacity ≤ deque_len queue → IsStepped means state IsValid (step.Put l) reply.Full w
          (after_move w w.processes (with_item w.queues l queue))
      put_full le =
          let count = length-map queue.items meant_packet in
          let long = queue.ok.0 in
          still_world reply.Full queue queue read refl (step.Put l)
          (is_refused the_job (Put l) Full (world_of the_job kept) (world_of the_job kept)
          (running (Some Full) (is_full the_job kept l (meant_channel c) channel_there (state x) sender_seen p some (packets_of queue)
          (queue_there queue read)
          (omega arith))) refl) tt

      free_put : deque_len queue < w.capacity → refusal the_job (world_of the_job kept) (Put l) ≡ None
      free_put lt =
          let count = length-map queue.items meant_packet in
          let long = queue.ok.0 in
          running None (has_room the_job kept l (meant_channel c) channel_there (state x) sender_seen p some (packets_of queue)
          (queue_there queue read) (omega arith))

      pub put_refused : deque_len queue < w.capacity → (next : VecDeque PacketOfCode Global) → next.items ≡ queue.items →
          IsStepped means state IsValid (step.Put l) reply.Memory w (after_move w w.processes (with_item w.queues l next))
      put_refused lt next same =
          still_world reply.Memory queue next read same (step.Put l)
          (is_granted the_job (Put l) Memory (world_of the_job kept) (world_of the_job kept) (free_put lt) refl) tt

      pub put_done : deque_len queue < w.capacity → (y : P) → IsValid y → (packet : PacketOfCode) (next : VecDeque PacketOfCode Global) →
          p ≡ meant_packet packet → IsSent l (state x) (state y) → next.items ≡ queue.items ++ packet ∷ [] →
          IsStepped means state IsValid (step.Put l) reply.Done w
          (after_move w (with_item w.processes c.source y) (with_item w.queues l next))
      put_done lt y valid packet next same sent grew =
          let k' = with_both kept c.source (state y) l (packets_of queue ++ p ∷ []) in
          let grown : packets_of next ≡ packets_of queue ++ p ∷ []
          = ap meant_packets grew ∙ map-append meant_packet queue.items (packet ∷ [])
          ∙ ap (λ (q : Packet). packets_of queue ++ q ∷ []) (sym same) in
          let there = queue_there queue read in
          stepped w (after_move w (with_item w.processes c.source y) (with_item w.queues l next)) stands refl refl refl
          (set_each (λ q z. IsValid z) w.processes.items c.source x y here stands.valid valid) k'
          (kept_alike w.capacity (map state (set w.processes.items c.source y)) (set kept.states c.source (state y)) kept.stopped
          (map packets_of (set w.queues.items l next)) (set kept.queued l (packets_of queue ++ p ∷ []))
          (map_set state w.processes.items c.source y)
          (map_set packets_of w.queues.items l next ∙ ap (set kept.queued l) grown))
          (step.Put l) reply.Done
          (is_granted the_job (Put l) Done (world_of the_job kept) (world_of the_job k') (free_put lt)
          (put_moves the_job kept stands.kept (state x) (state y) l (meant_channel c) channel_there sender_seen (packets_of queue) there p
          some sent))
          tt
          (put_stands the_job kept stands.kept (state x) (state y) l (meant_channel c) channel_there sender_seen (packets_of queue) there p
          some sent)

  -- a take, by what was read of the queue
  module _ (b : Bool) (flag : b ≡ get_or w.stopped.items c.target b) (goes : b ≡ false)
      (queue : VecDeque PacketOfCode Global) (read : queue ≡ get_or w.queues.items l queue) where
    ready : (reply : Option theory.Reply) → take_reply (link_of kept l (Some (meant_channel c))).queued ≡ reply →
        refusal the_job (world_of the_job kept) (Take l) ≡ reply
    ready reply e = take_if the_job kept l (meant_channel c) channel_there false (flag_at c.target ends.1 b false flag goes) ∙ e

    pub take_empty : queue.items ≡ [] → (next : VecDeque PacketOfCode Global) → next.items ≡ queue.items →
        IsStepped means state IsValid (step.Take l) reply.Empty w (after_move w w.processes (with_item w.queues l next))
    take_empty none next same =
        still_world reply.Empty queue next read same (step.Take l)
        (is_refused the_job (Take l) Empty (world_of the_job kept) (world_of the_job kept)
        (ready (Some Empty) (nothing_queued the_job kept l (meant_channel c) channel_there
        (queue_there queue read ∙ ap (λ (q : List PacketOfCode). Some (meant_packets q)) none))) refl) tt

    module _ (packet : PacketOfCode) (rest : List PacketOfCode) (front : queue.items ≡ packet ∷ rest)
        (x : P) (receiver : x ≡ get_or w.processes.items c.target x) where
      front_there : slice_get kept.queued l ≡ Some (meant_packet packet ∷ meant_packets rest)
      front_there = queue_there queue read ∙ ap (λ (q : List PacketOfCode). Some (meant_packets q)) front

      queued : ((world_of the_job kept).link l).queued ≡ meant_packet packet ∷ meant_packets rest
      queued = ap (λ (s : LinkState). s.queued) (link_is the_job kept l (Some (meant_channel c)) channel_there) ∙ ap queue_of front_there

      of_link : packet.link ≡ l
      of_link = front_link the_job (world_of the_job kept) stands.reached l (meant_channel c) channel_there (meant_packet packet)
          (meant_packets rest) queued

      free_take : refusal the_job (world_of the_job kept) (Take l) ≡ None
      free_take = ready None (some_queued the_job kept l (meant_channel c) channel_there (meant_packet packet) (meant_packets rest)
          front_there)

      there : slice_get w.processes.items c.target ≡ Some x
      there = read_at w.processes c.target x ends.1 receiver

      take_seen : slice_get kept.states c.target ≡ Some (state x)
      take_seen = shown_at state w.processes.items c.target x there

      pub receiver_valid : IsValid x
      receiver_valid = stands.valid c.target x there

      -- a packet that is on its way passes the tests of its receiver
      pub take_accepts : refusal_of (state x).share (state x).received (meant_packet packet) ≡ None
      take_accepts =
          let world = world_of the_job kept in
          let reached = stands.reached in
          let on : received_in world l ≡ (state x).received l
          = ap (λ (s : LinkState). s.received) (link_is the_job kept l (Some (meant_channel c)) channel_there)
          ∙ ap (λ (o : Option ProcessState). received_of o l) take_seen in
          let same : (state x).received packet.link ≡ received_in world packet.link
          = subst (λ (n : ℕ). (state x).received n ≡ received_in world n) (sym of_link) (sym on) in
          same_refusal (state x).share (share_of the_job c.target) (stands.kept.shares c.target (state x) take_seen)
          (state x).received (meant_packet packet)
          ∙ refusal_alike (share_of the_job c.target) (state x).received (received_in world) (meant_packet packet) same
          ∙ accepted reached.fits the_job reached.sound world
          (holds_after reached.fits the_job reached.sound (new_world reached.capacity) world reached.steps
          (holds_at_first reached.fits the_job reached.sound reached.capacity) reached.run)
          l (meant_channel c) (meant_packet packet) (meant_packets rest) channel_there queued

      module _ (y : P) (valid : IsValid y) where
        all_moved : AllValid IsValid (set w.processes.items c.target y)
        all_moved = set_each (λ q z. IsValid z) w.processes.items c.target x y there stands.valid valid

        pub take_refused : (next : VecDeque PacketOfCode Global) → next.items ≡ queue.items → state y ≡ state x →
            IsStepped means state IsValid (step.Take l) reply.Memory w
            (after_move w (with_item w.processes c.target y) (with_item w.queues l next))
        take_refused next same still =
            stepped w (after_move w (with_item w.processes c.target y) (with_item w.queues l next)) stands refl refl refl all_moved kept
            (kept_alike w.capacity (map state (set w.processes.items c.target y)) kept.states kept.stopped
            (map packets_of (set w.queues.items l next)) kept.queued
            (hidden_write state w.processes.items c.target x there y still) (same_queue queue next read same))
            (step.Take l) reply.Memory (is_granted the_job (Take l) Memory (world_of the_job kept) (world_of the_job kept) free_take refl)
            tt stands.kept

        pub take_done : (next : VecDeque PacketOfCode Global) → next.items ≡ rest → IsReceived (meant_packet packet) (state x) (state y) →
            IsStepped means state IsValid (step.Take l) reply.Done w
            (after_move w (with_item w.processes c.target y) (with_item w.queues l next))
        take_done next left got =
            let k' = with_both kept c.target (state y) l (meant_packets rest) in
            stepped w (after_move w (with_item w.processes c.target y) (with_item w.queues l next)) stands refl refl refl all_moved k'
            (kept_alike w.capacity (map state (set w.processes.items c.target y)) (set kept.states c.target (state y)) kept.stopped
            (map packets_of (set w.queues.items l next)) (set kept.queued l (meant_packets rest))
            (map_set state w.processes.items c.target y)
            (map_set packets_of w.queues.items l next ∙ ap (λ (q : List PacketOfCode). set kept.queued l (meant_packets q)) left))
            (step.Take l) reply.Done
            (is_granted the_job (Take l) Done (world_of the_job kept) (world_of the_job k') free_take
            (take_moves the_job kept stands.kept (state x) (state y) l (meant_channel c) channel_there take_seen
            (meant_packet packet) (meant_packets rest) front_there of_link got))
            tt
            (take_stands the_job kept stands.kept (state x) (state y) l (meant_channel c) channel_there take_seen
            (meant_packet packet) (meant_packets rest) front_there of_link got)

-- a process is stopped
abbrev pub after_stop : {J P : Type 0} → WorldState J P → ℕ → WorldState J P
after_stop w p = record {
  job = w.job;
  channels = w.channels;
  processes = w.processes;
  stopped = with_item w.stopped p true;
  queues = w.queues;
  capacity = w.capacity;
}

module _ {J P : Type 0} {IsValid : P → Type 0} {means : J → Job} {state : P → ProcessState} (w : WorldState J P)
    (stands : Stands means state IsValid w) where
  pub stop_done : (p : ℕ) (flag : Bool) → slice_get w.stopped.items p ≡ Some flag →
      IsStepped means state IsValid (step.Stop p) reply.Done w (after_stop w p)
  stop_done p flag there =
      let job = means w.job in
      let k = kept_by state w in
      let count = stands.kept.flags in
      let within = slice_get_within w.stopped.items p flag there in
      let known : nat_lt p job.processes ≡ true = grind (arith, nat_tests) in
      stepped w (after_stop w p) stands refl refl refl stands.valid (with_stopped k p) refl (step.Stop p) reply.Done
      (is_granted job (Stop p) Done (world_of job k) (world_of job (with_stopped k p))
      (ap (λ (t : Bool). let o : Option theory.Reply = if t then None else Some Refused in o) known)
      (stop_stops job k stands.kept p flag there))
      tt (stop_stands job k stands.kept p flag there)

-- only out of memory is left where no test fails
pub only_memory : (r : RefusedOfCode) → meant_refusal r ≡ None → (r ≡ why.NoMemory → ⊥) → ⊥
only_memory why.NoSuchLink e h = absurd (cc)
only_memory why.OtherWindow e h = absurd (cc)
only_memory why.OtherEvent e h = absurd (cc)
only_memory why.NoWindow e h = absurd (cc)
only_memory why.NoMemory e h = h refl
