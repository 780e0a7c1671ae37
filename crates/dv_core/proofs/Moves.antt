-- A put, a take and a stop are steps of the world.
use Rattle.std.proofs.Common.{◌≡◌, ℕ, Bool, true, false, cond, nat_eq, List, [], ◌∷◌, ◌++◌, Option, Some, None, refl, sym, ap, subst, ◌∙◌}
use Rattle.std.specs.List.{slice_get}
use Rattle.std.proofs.Math.ListN.{set, length-set}
use Rattle.dv_time.specs.Time.{rank}
use Rattle.dv_time.specs.declared.time.Time.{Time}
use Rattle.dv_conservative.specs.Alike.{AreAlike}
use Rattle.dv_conservative.specs.Process.{Packet, Share, clock_after, components_by, events_by, first_time, part_by, with_packet}
use Rattle.dv_conservative.specs.True.{AreTrue, IsTruePacket}
use Rattle.dv_conservative.specs.Turn.{Position}
use Rattle.dv_conservative.specs.World.{Channel, IsMove, IsStop, Job, LinkState, World, after_put, after_take, all_of}
use Rattle.dv_conservative.specs.World.{new_world, packets_in, promised_on, share_of, took_front}
use Rattle.dv_conservative.proofs.Holding.{holds_after, holds_at_first, put_all, took_all}
use Rattle.dv_conservative.proofs.Local.{same_number}
use Rattle.dv_core.specs.Kept.{Kept, clock_of, is_stopped, link_of, queue_of, received_of, standing_of, world_of}
use Rattle.dv_core.specs.Standing.{IsReached, StandsFor}
use Rattle.dv_core.specs.ProcessState.{HasCommitted, IsReceived, IsSent, ProcessState, StandsAtClock}
use Rattle.dv_core.proofs.Lookups.{number_itself, set_each, set_other, set_same}
use Rattle.dv_core.proofs.Standing.{link_is}
use Rattle.dv_core.proofs.Turns.{same_received}
use mathlib.Core.Path.{fun_ext}

-- with the state of one process and the queue of one link changed
abbrev pub with_both : Kept → ℕ → ProcessState → ℕ → List Packet → Kept
with_both k p y l queue =
    record { capacity = k.capacity; states = set k.states p y; stopped = k.stopped; queued = set k.queued l queue }

abbrev linked : ℕ → List Packet → List Packet → Option Packet → LinkState
linked capacity received queued standing = record { capacity = capacity; received = received; queued = queued; standing = standing }

linked_alike : (capacity : ℕ) (a b : List Packet) (q r : List Packet) (s t : Option Packet) → a ≡ b → q ≡ r → s ≡ t →
    linked capacity a q s ≡ linked capacity b r t
linked_alike capacity a b q r s t one two three =
    ap (λ (x : List Packet). linked capacity x q s) one
    ∙ ap (λ (x : List Packet). linked capacity b x s) two
    ∙ ap (λ (x : Option Packet). linked capacity b r x) three

module _ (job : Job) (k : Kept) (stands : StandsFor job k) (p : ℕ) (x y : ProcessState) (there : slice_get k.states p ≡ Some x)
    (l : ℕ) (c : Channel) (e : slice_get job.channels l ≡ Some c) (queue next : List Packet) (at : slice_get k.queued l ≡ Some queue) where
  abbrev w : World
  w = world_of job k

  abbrev after : Kept
  after = with_both k p y l next

  abbrev v : World
  v = world_of job after

  -- what can be read of a process is as before, unless it is the one that changed
  read_same : {X : Type 0} (f : Option ProcessState → X) → f (Some y) ≡ f (Some x) → (q : ℕ) →
      f (slice_get (set k.states p y) q) ≡ f (slice_get k.states q)
  read_same {X} f same q = by_index (nat_eq q p) refl
    where
      by_index : (t : Bool) → nat_eq q p ≡ t → f (slice_get (set k.states p y) q) ≡ f (slice_get k.states q)
      by_index true own =
          subst (λ (n : ℕ). f (slice_get (set k.states p y) n) ≡ f (slice_get k.states n)) (sym (same_number q p own))
          (ap f (set_same k.states p x y there) ∙ same ∙ ap f (sym there))
      by_index false other = ap f (set_other k.states p q y other)

  clocks_stay : y.position.clock ≡ x.position.clock → v.clock ≡ w.clock
  clocks_stay same = fun_ext (λ q. read_same clock_of same q)

  -- on the other links nothing changes
  other_links : ((m : ℕ) → nat_eq m l ≡ false → y.received m ≡ x.received m)
      → ((m : ℕ) → nat_eq m l ≡ false → y.position.standing m ≡ x.position.standing m)
      → (m : ℕ) → nat_eq m l ≡ false → v.link m ≡ w.link m
  other_links received standing m other = by_channel (slice_get job.channels m) refl
    where
      by_channel : (o : Option Channel) → slice_get job.channels m ≡ o → v.link m ≡ w.link m
      by_channel None f = link_is job after m None f ∙ sym (link_is job k m None f)
      by_channel (Some d) f =
          link_is job after m (Some d) f
          ∙ linked_alike k.capacity
          (received_of (slice_get (set k.states p y) d.target) m) (received_of (slice_get k.states d.target) m)
          (queue_of (slice_get (set k.queued l next) m)) (queue_of (slice_get k.queued m))
          (standing_of (slice_get (set k.states p y) d.source) m) (standing_of (slice_get k.states d.source) m)
          (read_same (λ (s : Option ProcessState). received_of s m) (received m other) d.target)
          (ap queue_of (set_other k.queued l m next other))
          (read_same (λ (s : Option ProcessState). standing_of s m) (standing m other) d.source)
          ∙ sym (link_is job k m (Some d) f)

  -- where all packets of each link and what is promised stay, so does what is kept of it
  kept_stands : y.share ≡ x.share → HasCommitted y → StandsAtClock y → y.position.promised ≡ x.position.promised
      → ((m : ℕ) → all_of (v.link m) ≡ all_of (w.link m))
      → StandsFor job after
  kept_stands share committed components promised packets = record {
    processes = length-set k.states p y ∙ stands.processes;
    flags = stands.flags;
    links = length-set k.queued l next ∙ stands.links;
    ends = stands.ends;
    shares = set_each (λ q z. AreAlike z.share (share_of job q)) k.states p x y there stands.shares
        (subst (λ (s : Share). AreAlike s (share_of job p)) (sym share) (stands.shares p x there));
    committed = set_each (λ q z. HasCommitted z) k.states p x y there stands.committed committed;
    components = set_each (λ q z. StandsAtClock z) k.states p x y there stands.components components;
    promised = λ m d z f now.
        set_each (λ q s. (i : ℕ) (g : Channel) → slice_get job.channels i ≡ Some g → g.source ≡ q
        → s.position.promised i ≡ promised_on (link_of k i (Some g)))
        k.states p x y there was own d.source z now m d f refl
        ∙ ap promised_on (sym (link_is job k m (Some d) f))
        ∙ ap (clock_after first_time) (sym (packets m))
        ∙ ap promised_on (link_is job after m (Some d) f);
  }
    where
      was : (q : ℕ) (s : ProcessState) → slice_get k.states q ≡ Some s → (i : ℕ) (g : Channel) → slice_get job.channels i ≡ Some g
          → g.source ≡ q → s.position.promised i ≡ promised_on (link_of k i (Some g))
      was q s is i g f index = stands.promised i g s f (subst (λ (n : ℕ). slice_get k.states n ≡ Some s) (sym index) is)

      own : (i : ℕ) (g : Channel) → slice_get job.channels i ≡ Some g → g.source ≡ p
          → y.position.promised i ≡ promised_on (link_of k i (Some g))
      own i g f index = ap (λ (t : ℕ → Time). t i) promised ∙ was p x there i g f index

-- all packets of each link stay, where one link has the same packets and the others stay
packets_stay : (w v : World) (l : ℕ) → all_of (v.link l) ≡ all_of (w.link l) → ((m : ℕ) → nat_eq m l ≡ false → v.link m ≡ w.link m) →
    (m : ℕ) → all_of (v.link m) ≡ all_of (w.link m)
packets_stay w v l same others m = by_number (nat_eq m l) refl
  where
    by_number : (t : Bool) → nat_eq m l ≡ t → all_of (v.link m) ≡ all_of (w.link m)
    by_number true own = subst (λ (n : ℕ). all_of (v.link n) ≡ all_of (w.link n)) (sym (same_number m l own)) same
    by_number false other = ap all_of (others m other)

module _ (job : Job) (k : Kept) (stands : StandsFor job k) (x y : ProcessState) (l : ℕ) (c : Channel)
    (e : slice_get job.channels l ≡ Some c)
    (there : slice_get k.states c.source ≡ Some x) (queue : List Packet) (at : slice_get k.queued l ≡ Some queue) (packet : Packet)
    (stood : x.position.standing l ≡ Some packet) (sent : IsSent l x y) where
  abbrev put : Kept
  put = with_both k c.source y l (queue ++ packet ∷ [])

  put_link : (world_of job put).link l ≡ after_put ((world_of job k).link l)
  put_link =
      link_is job put l (Some c) e
      ∙ linked_alike k.capacity
      (received_of (slice_get (set k.states c.source y) c.target) l) (received_of (slice_get k.states c.target) l)
      (queue_of (slice_get (set k.queued l (queue ++ packet ∷ [])) l))
      (queue_of (slice_get k.queued l) ++ packets_in (standing_of (slice_get k.states c.source) l))
      (standing_of (slice_get (set k.states c.source y) c.source) l) None
      (same_received k c.source x y there sent.received c.target l)
      (ap queue_of (set_same k.queued l queue (queue ++ packet ∷ []) at)
      ∙ ap (λ (q : List Packet). q ++ packet ∷ []) (ap queue_of (sym at))
      ∙ ap (λ (s : Option Packet). queue_of (slice_get k.queued l) ++ packets_in s) (sym stood)
      ∙ ap (λ (o : Option ProcessState). queue_of (slice_get k.queued l) ++ packets_in (standing_of o l)) (sym there))
      (ap (λ (o : Option ProcessState). standing_of o l) (set_same k.states c.source x y there) ∙ sent.free)
      ∙ ap after_put (sym (link_is job k l (Some c) e))

  put_others : (m : ℕ) → nat_eq m l ≡ false → (world_of job put).link m ≡ (world_of job k).link m
  put_others =
      other_links job k stands c.source x y there l c e queue (queue ++ packet ∷ []) at
      (λ m other. ap (λ (f : ℕ → List Packet). f m) sent.received) sent.others

  pub put_moves : IsMove l (after_put ((world_of job k).link l)) (world_of job k) (world_of job put)
  put_moves = record {
    link = put_link;
    others = put_others;
    clock = clocks_stay job k stands c.source x y there l c e queue (queue ++ packet ∷ []) at sent.clock;
    stopped = refl;
  }

  put_committed : HasCommitted y
  put_committed =
      sent.part ∙ stands.committed c.source x there
      ∙ ap (λ (s : Share). part_by s (events_by x.received) (rank s.limit x.position.clock)) (sym sent.share)
      ∙ ap (λ (f : ℕ → List Packet). part_by y.share (events_by f) (rank y.share.limit x.position.clock)) (sym sent.received)
      ∙ ap (λ (t : Time). part_by y.share (events_by y.received) (rank y.share.limit t)) (sym sent.clock)

  put_components : StandsAtClock y
  put_components =
      sent.components ∙ stands.components c.source x there
      ∙ ap (λ (s : Share). components_by s (events_by x.received) (rank s.limit x.position.clock)) (sym sent.share)
      ∙ ap (λ (f : ℕ → List Packet). components_by y.share (events_by f) (rank y.share.limit x.position.clock)) (sym sent.received)
      ∙ ap (λ (t : Time). components_by y.share (events_by y.received) (rank y.share.limit t)) (sym sent.clock)

  pub put_stands : StandsFor job put
  put_stands =
      kept_stands job k stands c.source x y there l c e queue (queue ++ packet ∷ []) at sent.share put_committed put_components
      sent.promised
      (packets_stay (world_of job k) (world_of job put) l (ap all_of put_link ∙ put_all ((world_of job k).link l)) put_others)

-- a packet within true ones is of their link
mid_link : (job : Job) (l : ℕ) (c : Channel) (start : Time) (ps : List Packet) (p : Packet) (rest : List Packet) →
    AreTrue job l c start (ps ++ p ∷ rest) → p.link ≡ l
mid_link job l c start [] p rest h = let truth : IsTruePacket job l c p = h.1 in truth.link
mid_link job l c start (q ∷ ps) p rest h = mid_link job l c q.upto ps p rest h.2

-- the packet at the front of a link is of that link
pub front_link : (job : Job) (w : World) → IsReached job w → (l : ℕ) (c : Channel) → slice_get job.channels l ≡ Some c →
    (p : Packet) (rest : List Packet) → (w.link l).queued ≡ p ∷ rest → p.link ≡ l
front_link job w reached l c e p rest queue =
    let z = w.link l in
    let holds = holds_after reached.fits job reached.sound (new_world reached.capacity) w reached.steps
    (holds_at_first reached.fits job reached.sound reached.capacity) reached.run in
    mid_link job l c first_time z.received p (rest ++ packets_in z.standing)
    (subst (λ (q : List Packet). AreTrue job l c first_time (z.received ++ (q ++ packets_in z.standing))) queue (holds.truth l c e))

with_packet_same : (received : ℕ → List Packet) (p : Packet) (l : ℕ) → p.link ≡ l → with_packet received p l ≡ received l ++ p ∷ []
with_packet_same received p l e =
    ap (λ (t : Bool). cond t (received l ++ p ∷ []) (received l)) (ap (nat_eq l) e ∙ number_itself l)

with_packet_other : (received : ℕ → List Packet) (p : Packet) (l m : ℕ) → p.link ≡ l → nat_eq m l ≡ false
    → with_packet received p m ≡ received m
with_packet_other received p l m e other =
    ap (λ (t : Bool). cond t (received m ++ p ∷ []) (received m)) (ap (nat_eq m) e ∙ other)

module _ (job : Job) (k : Kept) (stands : StandsFor job k) (x y : ProcessState) (l : ℕ) (c : Channel)
    (e : slice_get job.channels l ≡ Some c)
    (there : slice_get k.states c.target ≡ Some x) (packet : Packet) (rest : List Packet) (at : slice_get k.queued l ≡ Some (packet ∷ rest))
    (link : packet.link ≡ l) (got : IsReceived packet x y) where
  abbrev taken : Kept
  taken = with_both k c.target y l rest

  now_received : (m : ℕ) → y.received m ≡ with_packet x.received packet m
  now_received m = ap (λ (f : ℕ → List Packet). f m) got.received

  take_link : (world_of job taken).link l ≡ after_take ((world_of job k).link l)
  take_link =
      let z = link_of k l (Some c) in
      link_is job taken l (Some c) e
      ∙ linked_alike k.capacity
      (received_of (slice_get (set k.states c.target y) c.target) l) (received_of (slice_get k.states c.target) l ++ packet ∷ [])
      (queue_of (slice_get (set k.queued l rest) l)) rest
      (standing_of (slice_get (set k.states c.target y) c.source) l) (standing_of (slice_get k.states c.source) l)
      (ap (λ (o : Option ProcessState). received_of o l) (set_same k.states c.target x y there)
      ∙ now_received l ∙ with_packet_same x.received packet l link
      ∙ ap (λ (o : Option ProcessState). received_of o l ++ packet ∷ []) (sym there))
      (ap queue_of (set_same k.queued l (packet ∷ rest) rest at))
      (read_same job k stands c.target x y there l c e (packet ∷ rest) rest at (λ (s : Option ProcessState). standing_of s l)
      (ap (λ (t : Position). t.standing l) got.position) c.source)
      ∙ ap (took_front z) (sym (ap queue_of at))
      ∙ ap after_take (sym (link_is job k l (Some c) e))

  take_others : (m : ℕ) → nat_eq m l ≡ false → (world_of job taken).link m ≡ (world_of job k).link m
  take_others =
      other_links job k stands c.target x y there l c e (packet ∷ rest) rest at
      (λ m other. now_received m ∙ with_packet_other x.received packet l m link other)
      (λ m other. ap (λ (t : Position). t.standing m) got.position)

  pub take_moves : IsMove l (after_take ((world_of job k).link l)) (world_of job k) (world_of job taken)
  take_moves = record {
    link = take_link;
    others = take_others;
    clock = clocks_stay job k stands c.target x y there l c e (packet ∷ rest) rest at (ap (λ (t : Position). t.clock) got.position);
    stopped = refl;
  }

  pub take_stands : StandsFor job taken
  take_stands =
      kept_stands job k stands c.target x y there l c e (packet ∷ rest) rest at got.share got.committed got.components
      (ap (λ (t : Position). t.promised) got.position)
      (packets_stay (world_of job k) (world_of job taken) l
      (ap all_of take_link ∙ took_all ((world_of job k).link l) ((world_of job k).link l).queued refl) take_others)

-- with a process stopped
abbrev pub with_stopped : Kept → ℕ → Kept
with_stopped k p = record { capacity = k.capacity; states = k.states; stopped = set k.stopped p true; queued = k.queued }

module _ (job : Job) (k : Kept) (stands : StandsFor job k) (p : ℕ) (flag : Bool) (there : slice_get k.stopped p ≡ Some flag) where
  same_links : (l : ℕ) (o : Option Channel) → link_of (with_stopped k p) l o ≡ link_of k l o
  same_links l None = refl
  same_links l (Some c) = refl

  pub stop_stops : IsStop p (world_of job k) (world_of job (with_stopped k p))
  stop_stops = record {
    stopped = ap is_stopped (set_same k.stopped p flag true there);
    others = λ q other. ap is_stopped (set_other k.stopped p q true other);
    clock = refl;
    link = fun_ext (λ l. same_links l (slice_get job.channels l));
  }

  pub stop_stands : StandsFor job (with_stopped k p)
  stop_stands = record {
    processes = stands.processes;
    flags = length-set k.stopped p true ∙ stands.flags;
    links = stands.links;
    ends = stands.ends;
    shares = stands.shares;
    committed = stands.committed;
    components = stands.components;
    promised = stands.promised;
  }
