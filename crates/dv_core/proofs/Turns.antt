-- A turn of a process is a step of the world.
use Rattle.std.proofs.Common.{◌≡◌, inl, inr, ℕ, ◌+◌, Bool, true, false, nat_eq, List, [], ◌∷◌, ◌++◌, Option, Some, None, refl}
use Rattle.std.proofs.Common.{sym, ap, subst, ◌∙◌, arith, append_assoc}
use Rattle.std.specs.List.{slice_get}
use Rattle.std.proofs.Math.ListN.{set, length-set}
use Rattle.dv_conservative.specs.Alike.{AreAlike}
use Rattle.dv_conservative.specs.Process.{Packet, Share, clock_after, events_by, first_time, packet_of}
use Rattle.dv_conservative.specs.Rounds.{Progressed}
use Rattle.dv_conservative.specs.Turn.{IsTurnOf, MayBecome}
use Rattle.dv_conservative.specs.World.{Channel, IsStep, IsTurn, Job, LinkState, Reply, StaysBeside, Step, World, Answers}
use Rattle.dv_conservative.specs.World.{AnswersBy, new_world, of_process, outgoing_on, position_in, promised_on, received_in}
use Rattle.dv_conservative.specs.World.{refusal, share_of, Done, Turn}
use Rattle.dv_conservative.proofs.SameRuns.{same_turn}
use Rattle.dv_conservative.proofs.Holding.{holds_after, holds_at_first}
use Rattle.dv_conservative.proofs.Lists.{became_of}
use Rattle.dv_conservative.proofs.Turning.{turn_is_step}
use Rattle.dv_conservative.proofs.Local.{same_number}
use Rattle.dv_core.specs.Kept.{Kept, clock_of, link_of, queue_of, received_of, standing_of, world_of}
use Rattle.dv_core.specs.Standing.{IsReached, StandsFor}
use Rattle.dv_core.specs.ProcessState.{HasCommitted, ProcessState, StandsAtClock}
use Rattle.dv_core.proofs.Alike.{turn_alike}
use Rattle.dv_core.proofs.Lookups.{set_each, set_other, set_same}
use Rattle.dv_core.proofs.Standing.{agree_position, agree_received, clock_after_last, link_is}

-- a step that something refuses, and one that nothing refuses
pub is_refused : (job : Job) (step : Step) (reply : Reply) (w v : World) → refusal job w step ≡ Some reply → v ≡ w
    → IsStep job step reply w v
is_refused job step reply w v e same = subst (λ (o : Option Reply). AnswersBy o job step reply w v) (sym e) (refl, same)

pub is_granted : (job : Job) (step : Step) (reply : Reply) (w v : World) → refusal job w step ≡ None → Answers job step reply w v
    → IsStep job step reply w v
is_granted job step reply w v e answers = subst (λ (o : Option Reply). AnswersBy o job step reply w v) (sym e) answers

-- with the state of one process changed
abbrev pub with_state : Kept → ℕ → ProcessState → Kept
with_state k p y = record { capacity = k.capacity; states = set k.states p y; stopped = k.stopped; queued = k.queued }

abbrev pub with_standing_on : LinkState → Option Packet → LinkState
with_standing_on x standing = record { capacity = x.capacity; received = x.received; queued = x.queued; standing = standing }

-- where what it received stays, so does what links say of it
pub same_received : (k : Kept) (p : ℕ) (x y : ProcessState) → slice_get k.states p ≡ Some x → y.received ≡ x.received →
    (q l : ℕ) → received_of (slice_get (set k.states p y) q) l ≡ received_of (slice_get k.states q) l
same_received k p x y there same q l = by_index (nat_eq q p) refl
  where
    by_index : (t : Bool) → nat_eq q p ≡ t → received_of (slice_get (set k.states p y) q) l ≡ received_of (slice_get k.states q) l
    by_index true own =
        let e = same_number q p own in
        subst (λ (n : ℕ). received_of (slice_get (set k.states p y) n) l ≡ received_of (slice_get k.states n) l) (sym e)
        (ap (λ (o : Option ProcessState). received_of o l) (set_same k.states p x y there)
        ∙ ap (λ (f : ℕ → List Packet). f l) same
        ∙ ap (λ (o : Option ProcessState). received_of o l) (sym there))
    by_index false other = ap (λ (o : Option ProcessState). received_of o l) (set_other k.states p q y other)

pub link_with_state : (k : Kept) (p : ℕ) (x y : ProcessState) → slice_get k.states p ≡ Some x → y.received ≡ x.received →
    (l : ℕ) (c : Channel) →
    link_of (with_state k p y) l (Some c) ≡ with_standing_on (link_of k l (Some c)) (standing_of (slice_get (set k.states p y) c.source) l)
link_with_state k p x y there same l c =
    ap (λ (received : List Packet). let z : LinkState = record {
      capacity = k.capacity;
      received = received;
      queued = queue_of (slice_get k.queued l);
      standing = standing_of (slice_get (set k.states p y) c.source) l;
    } in z)
    (same_received k p x y there same c.target l)

module _ (job : Job) (k : Kept) (stands : StandsFor job k) (p : ℕ) (x y : ProcessState) (there : slice_get k.states p ≡ Some x)
    (share : y.share ≡ x.share) (received : y.received ≡ x.received) (committed : HasCommitted y) (components : StandsAtClock y)
    (turn : IsTurnOf x.share x.received x.position y.position) where
  abbrev w : World
  w = world_of job k

  abbrev after : Kept
  after = with_state k p y

  abbrev v : World
  v = world_of job after

  own_share : AreAlike x.share (share_of job p)
  own_share = stands.shares p x there

  own_turn : IsTurnOf (share_of job p) x.received x.position y.position
  own_turn = same_turn x.share (share_of job p) own_share x.received x.position y.position turn

  now_there : slice_get (set k.states p y) p ≡ Some y
  now_there = set_same k.states p x y there

  became : (l : ℕ) (c : Channel) → slice_get job.channels l ≡ Some c → nat_eq c.source p ≡ true →
      MayBecome (share_of job p) x.received (outgoing_on job l c) x.position y.position
  became l c e own =
      let number : 0 + l ≡ l = omega arith in
      subst (λ (n : ℕ). MayBecome (share_of job p) x.received (outgoing_on job n c) x.position y.position) number
      (became_of job (share_of job p) x.received x.position y.position p 0 job.channels l c own_turn.may.links e own)

  -- what stands on a link that leads away from it
  own_standing : (l : ℕ) (c : Channel) → nat_eq c.source p ≡ true
      → standing_of (slice_get (set k.states p y) c.source) l ≡ y.position.standing l
  own_standing l c own =
      ap (λ (q : ℕ). standing_of (slice_get (set k.states p y) q) l) (same_number c.source p own)
      ∙ ap (λ (o : Option ProcessState). standing_of o l) now_there

  was_standing : (l : ℕ) (c : Channel) → nat_eq c.source p ≡ true → standing_of (slice_get k.states c.source) l ≡ x.position.standing l
  was_standing l c own =
      ap (λ (q : ℕ). standing_of (slice_get k.states q) l) (same_number c.source p own)
      ∙ ap (λ (o : Option ProcessState). standing_of o l) there

  own_link : (l : ℕ) (c : Channel) → nat_eq c.source p ≡ true →
      link_of after l (Some c) ≡ with_standing_on (link_of k l (Some c)) (y.position.standing l)
  own_link l c own = link_with_state k p x y there received l c ∙ ap (with_standing_on (link_of k l (Some c))) (own_standing l c own)

  other_link : (l : ℕ) (c : Channel) → nat_eq c.source p ≡ false → link_of after l (Some c) ≡ link_of k l (Some c)
  other_link l c other =
      link_with_state k p x y there received l c
      ∙ ap (λ (o : Option ProcessState). with_standing_on (link_of k l (Some c)) (standing_of o l)) (set_other k.states p c.source y other)

  was_promised : (l : ℕ) (c : Channel) → slice_get job.channels l ≡ Some c → nat_eq c.source p ≡ true →
      x.position.promised l ≡ promised_on (link_of k l (Some c))
  was_promised l c e own =
      let index = sym (same_number c.source p own) in
      stands.promised l c x e (subst (λ (q : ℕ). slice_get k.states q ≡ Some x) index there)

  now_promised : (l : ℕ) (c : Channel) → slice_get job.channels l ≡ Some c → nat_eq c.source p ≡ true →
      y.position.promised l ≡ promised_on (link_of after l (Some c))
  now_promised l c e own = by_become (became l c e own)
    where
      by_become : MayBecome (share_of job p) x.received (outgoing_on job l c) x.position y.position →
          y.position.promised l ≡ promised_on (link_of after l (Some c))
      by_become (inl stays) =
          stays.promised ∙ was_promised l c e own
          ∙ ap (λ (s : Option Packet). promised_on (with_standing_on (link_of k l (Some c)) s)) (was_standing l c own ∙ sym stays.stands)
          ∙ ap promised_on (sym (own_link l c own))
      by_become (inr made) =
          let z = link_of k l (Some c) in
          let packet = packet_of (share_of job p) (events_by x.received) (outgoing_on job l c) (x.position.promised l) made.upto in
          made.promised
          ∙ sym (clock_after_last first_time (z.received ++ z.queued) packet)
          ∙ ap (clock_after first_time) (append_assoc z.received z.queued (packet ∷ []))
          ∙ ap (λ (s : Option Packet). promised_on (with_standing_on z s)) (sym made.stands)
          ∙ ap promised_on (sym (own_link l c own))

  pub turned_stands : StandsFor job after
  turned_stands = record {
    processes = length-set k.states p y ∙ stands.processes;
    flags = stands.flags;
    links = stands.links;
    ends = stands.ends;
    shares = set_each (λ q z. AreAlike z.share (share_of job q)) k.states p x y there stands.shares
        (subst (λ (s : Share). AreAlike s (share_of job p)) (sym share) own_share);
    committed = set_each (λ q z. HasCommitted z) k.states p x y there stands.committed committed;
    components = set_each (λ q z. StandsAtClock z) k.states p x y there stands.components components;
    promised = λ l c z e at. by_source l c z e at (nat_eq c.source p) refl;
  }
    where
      by_source : (l : ℕ) (c : Channel) (z : ProcessState) → slice_get job.channels l ≡ Some c
          → slice_get (set k.states p y) c.source ≡ Some z →
          (t : Bool) → nat_eq c.source p ≡ t → z.position.promised l ≡ promised_on (link_of after l (Some c))
      by_source l c z e at true own =
          let index = same_number c.source p own in
          let now = sym now_there ∙ subst (λ (q : ℕ). slice_get (set k.states p y) q ≡ Some z) index at in
          let value : y ≡ z = cc in
          subst (λ (s : ProcessState). s.position.promised l ≡ promised_on (link_of after l (Some c))) value (now_promised l c e own)
      by_source l c z e at false other =
          stands.promised l c z e (sym (set_other k.states p c.source y other) ∙ at) ∙ ap promised_on (sym (other_link l c other))

  world_turn : IsTurnOf (share_of job p) (received_in w) (position_in w p) (position_in v p)
  world_turn =
      turn_alike (share_of job p) x.received (received_in w) (agree_received job k p x there)
      x.position y.position (position_in w p) (position_in v p)
      (ap clock_of (sym there)) (ap clock_of (sym now_there))
      (agree_position job k p x there was_promised) (agree_position job after p y now_there now_promised) own_turn

  beside : StaysBeside job p w v
  beside = record {
    clocks = λ q other. ap clock_of (set_other k.states p q y other);
    stopped = refl;
    others = λ l c e other. link_is job after l (Some c) e ∙ other_link l c other ∙ sym (link_is job k l (Some c) e);
    none = λ l e. link_is job after l None e ∙ sym (link_is job k l None e);
    own = λ l c e own.
        link_is job after l (Some c) e ∙ own_link l c own
        ∙ ap (with_standing_on (link_of k l (Some c)))
        (sym (own_standing l c own) ∙ sym (ap (λ (z : LinkState). z.standing) (link_is job after l (Some c) e)))
        ∙ ap (λ (z : LinkState). with_standing_on z (v.link l).standing) (sym (link_is job k l (Some c) e));
  }

  module _ (reached : IsReached job w) where
    is_turn : IsTurn job p w v
    is_turn =
        turn_is_step reached.fits job reached.sound w
        (holds_after reached.fits job reached.sound (new_world reached.capacity) w reached.steps
        (holds_at_first reached.fits job reached.sound reached.capacity) reached.run)
        v p world_turn.may beside

    pub turned_step : of_process job w p ≡ None → IsStep job (Turn p) Done w v
    turned_step free = is_granted job (Turn p) Done w v free is_turn

    pub turned_progress : Progressed job (Turn p) Done w v
    turned_progress = world_turn.must
