-- What every step keeps: all packets are true, and no clock passes a channel clock.
use Rattle.std.proofs.Common.{◌≡◌, inl, inr, ℕ, suc, ◌+◌, ◌-◌, ◌<◌, ◌≤◌, Bool, true, false, cond, nat_eq, List, [], ◌∷◌, ◌++◌}
use Rattle.std.proofs.Common.{append-nil, append_assoc, length, Option, Some, None, refl, sym, ap, subst, ◌∙◌, arith}
use Rattle.std.specs.List.{slice_get}
use Rattle.dv_time.specs.Time.{rank, end_of}
use Rattle.dv_time.specs.declared.time.Time.{Time}
use Rattle.dv_bag.specs.declared.state.State.{State}
use Rattle.dv_devs.specs.Network.{components_at}
use Rattle.dv_devs.specs.Parts.{part_before}
use Rattle.dv_conservative.specs.Events.{deliveries_at}
use Rattle.dv_conservative.specs.Flat.{crossings, kept, numbers, others, whole}
use Rattle.dv_conservative.specs.Links.{SameFor}
use Rattle.dv_conservative.specs.Process.{IsWithin, Packet, all_events, channel_clock, clock_after, components_by, end_rank}
use Rattle.dv_conservative.specs.Process.{events_by, first_time, least_clock, least_of, packet_of, part_by, sent_on}
use Rattle.dv_conservative.specs.Sound.{IsJob}
use Rattle.dv_conservative.specs.True.{AreTrue, IsTruePacket, crossing_by}
use Rattle.dv_conservative.specs.World.{Answers, AnswersBy, Channel, Does, IsMove, IsPrepared, IsRun, IsTurn, Job, LinkState}
use Rattle.dv_conservative.specs.World.{Reply, Step, World, Turn, Put, Take, Stop, Done, Refused, Stopped, Empty, Full, Memory}
use Rattle.dv_conservative.specs.World.{after_put, after_take, all_of, incoming_from, new_world, outgoing_on, owned, packets_in}
use Rattle.dv_conservative.specs.World.{promised_on, received_in, refusal, share_of, took_front, with_standing}
use Rattle.dv_conservative.proofs.Crossing.{heard_before, settled_is_true, true_first}
use Rattle.dv_conservative.proofs.Kept.{part_of_share}
use Rattle.dv_conservative.proofs.Local.{components_of_share, same_number}
use Rattle.dv_conservative.proofs.Windows.{same_windows}

-- a next packet joins those before it
pub joins : (job : Job) (l : ℕ) (c : Channel) (start : Time) (ps : List Packet) (p : Packet) → AreTrue job l c start ps →
    p.from ≡ clock_after start ps → IsTruePacket job l c p → AreTrue job l c start (ps ++ p ∷ [])
joins job l c start [] p h first truth = (first, truth, tt)
joins job l c start (q ∷ ps) p h first truth = (h.0, h.1, joins job l c q.upto ps p h.2 first truth)

-- the clock rises with the next of true packets
clock_rises : (job : Job) (l : ℕ) (c : Channel) (start : Time) (ps : List Packet) (p : Packet) (qs : List Packet) →
    AreTrue job l c start (ps ++ p ∷ qs) → rank job.limit (clock_after start ps) ≤ rank job.limit (clock_after start (ps ++ p ∷ []))
clock_rises job l c start [] p qs h =
    let truth : IsTruePacket job l c p = h.1 in
    let first : rank job.limit p.from ≡ rank job.limit start = ap (rank job.limit) h.0 in
    omega (arith, truth.later)
clock_rises job l c start (q ∷ ps) p qs h = clock_rises job l c q.upto ps p qs h.2

-- the least channel clock rises with them all
least_rises : (limit bound q : ℕ) (one other : ℕ → List Packet) (base : ℕ) (chs : List Channel) →
    ((i : ℕ) (c : Channel) → slice_get chs i ≡ Some c →
    rank limit (channel_clock (one (base + i))) ≤ rank limit (channel_clock (other (base + i))))
    → least_of limit bound (incoming_from q base chs) one ≤ least_of limit bound (incoming_from q base chs) other
least_rises limit bound q one other base [] h = omega arith
least_rises limit bound q one other base (c ∷ cs) h =
    let number : base + 0 ≡ base = omega arith in
    let first : rank limit (channel_clock (one base)) ≤ rank limit (channel_clock (other base)) = subst (λ (n : ℕ).
    rank limit (channel_clock (one n)) ≤ rank limit (channel_clock (other n))) number (h 0 c refl) in
    let rest = least_rises limit bound q one other (suc base) cs (λ i d e.
    let next : base + suc i ≡ suc base + i = omega arith in
    subst (λ (n : ℕ). rank limit (channel_clock (one n)) ≤ rank limit (channel_clock (other n))) next (h (suc i) d e)) in
    by_test (nat_eq c.target q) first rest
  where
    by_test : (t : Bool) → rank limit (channel_clock (one base)) ≤ rank limit (channel_clock (other base)) →
        least_of limit bound (incoming_from q (suc base) cs) one ≤ least_of limit bound (incoming_from q (suc base) cs) other →
        least_of limit bound (cond t (base ∷ incoming_from q (suc base) cs) (incoming_from q (suc base) cs)) one
        ≤ least_of limit bound (cond t (base ∷ incoming_from q (suc base) cs) (incoming_from q (suc base) cs)) other
    by_test true first rest = omega arith
    by_test false first rest = rest

-- what steps do to the packets of a link
pub put_all : (x : LinkState) → all_of (after_put x) ≡ all_of x
put_all x = ap (λ (ps : List Packet). x.received ++ ps) (append-nil (x.queued ++ packets_in x.standing))

pub took_all : (x : LinkState) (queue : List Packet) → x.queued ≡ queue → all_of (took_front x queue) ≡ all_of x
took_all x [] e = refl
took_all x (p ∷ rest) e =
    append_assoc x.received (p ∷ []) (rest ++ packets_in x.standing)
    ∙ sym (ap (λ (queue : List Packet). x.received ++ (queue ++ packets_in x.standing)) e)

pub made_all : (x : LinkState) (p : Packet) → x.standing ≡ None → all_of (with_standing x p) ≡ all_of x ++ p ∷ []
made_all x p none =
    sym (
    ap (λ (s : Option Packet). (x.received ++ (x.queued ++ packets_in s)) ++ p ∷ []) none
    ∙ ap (λ (queue : List Packet). (x.received ++ queue) ++ p ∷ []) (append-nil x.queued)
    ∙ append_assoc x.received x.queued (p ∷ []))

module _ (fits : ℕ → State → Bool) (job : Job) (good : IsJob fits job) where
  abbrev IsTrueLink : ℕ → Channel → LinkState → Type 0
  IsTrueLink l c x = AreTrue job l c first_time (all_of x)

  pub record Holds (w : World) : Type 0 where
    pub truth : (l : ℕ) (c : Channel) → slice_get job.channels l ≡ Some c → IsTrueLink l c (w.link l)
    pub clocks : (p : ℕ) → rank job.limit (w.clock p) ≤ least_clock (share_of job p) (received_in w)
    pub within : (p : ℕ) → IsWithin (share_of job p) (w.clock p)

  pub received_true : (w : World) → Holds w → (l : ℕ) (c : Channel) → slice_get job.channels l ≡ Some c →
      AreTrue job l c first_time (received_in w l)
  received_true w holds l c e =
      let x = w.link l in
      true_first job l c first_time x.received (x.queued ++ packets_in x.standing) (holds.truth l c e)

  -- a packet that is prepared is the next true one
  prepared_true : (w v : World) → Holds w → (l p : ℕ) (c : Channel) → slice_get job.channels l ≡ Some c → c.source ≡ p →
      IsPrepared (share_of job p) (received_in w) (outgoing_on job l c) (w.link l) (v.link l) → IsTrueLink l c (v.link l)
  prepared_true w v holds l p c e own made =
      let x = w.link l in
      let s = share_of job p in
      let from = promised_on x in
      let packet = packet_of s (events_by (received_in w)) (outgoing_on job l c) from made.upto in
      let same = same_windows job.limit (sent_on s (events_by (received_in w)) (outgoing_on job l c)) (crossing_by job c)
      (rank job.limit from)
      (rank job.limit made.upto - rank job.limit from)
      (λ n le lt. settled_is_true fits job good p (received_in w) (received_true w holds) l c made.upto own made.settled n
      (omega (arith, made.later))
      (omega (arith, made.later, made.within))) in
      let truth : IsTruePacket job l c packet = record { link = refl; later = made.later; within = made.within; events = same } in
      let all : all_of (v.link l) ≡ all_of x ++ packet ∷ [] = ap all_of made.made ∙ made_all x packet made.free in
      subst (AreTrue job l c first_time) (sym all) (joins job l c first_time (all_of x) packet (holds.truth l c e) refl truth)

  -- what a step does to the links and clocks
  record Keeps (w v : World) : Type 0 where
    truth : (l : ℕ) (c : Channel) → slice_get job.channels l ≡ Some c → IsTrueLink l c (v.link l)
    rises : (l : ℕ) (c : Channel) → slice_get job.channels l ≡ Some c →
        rank job.limit (channel_clock (received_in w l)) ≤ rank job.limit (channel_clock (received_in v l))
    clocks : (p : ℕ) → rank job.limit (v.clock p) ≤ least_clock (share_of job p) (received_in w)
    within : (p : ℕ) → IsWithin (share_of job p) (v.clock p)

  kept_holds : (w v : World) → Keeps w v → Holds v
  kept_holds w v keeps = record {
    truth = keeps.truth;
    clocks = λ p.
        let least = least_rises job.limit (end_rank (share_of job p)) p (received_in w) (received_in v) 0 job.channels (λ i c e.
        let number : i ≡ 0 + i = omega arith in
        subst (λ (n : ℕ). rank job.limit (channel_clock (received_in w n)) ≤ rank job.limit (channel_clock (received_in v n))) number
        (keeps.rises i c e)) in
        omega (arith, keeps.clocks p);
    within = keeps.within;
  }

  after_turn : (w v : World) (p : ℕ) → Holds w → IsTurn job p w v → Keeps w v
  after_turn w v p holds turn = record {
    truth = λ l c e. elim (turn.links l) [
      | inl same ↦ subst (IsTrueLink l c) (sym same) (holds.truth l c e)
      | inr made ↦
          let channel : made.channel ≡ c = cc in
          prepared_true w v holds l p c e (ap (λ (d : Channel). d.source) (sym channel) ∙ made.own)
          (subst (λ (d : Channel). IsPrepared (share_of job p) (received_in w) (outgoing_on job l d) (w.link l) (v.link l)) channel
          made.prepared)
    ];
    rises = λ l c e. elim (turn.links l) [
      | inl same ↦
          let eq : rank job.limit (channel_clock (received_in w l)) ≡ rank job.limit (channel_clock (received_in v l))
          = ap (λ (x : LinkState). rank job.limit (channel_clock x.received)) (sym same) in
          omega arith
      | inr made ↦
          let one = made.prepared in
          let eq : rank job.limit (channel_clock (received_in w l)) ≡ rank job.limit (channel_clock (received_in v l))
          = ap (λ (x : LinkState). rank job.limit (channel_clock x.received)) (sym one.made) in
          omega arith
    ];
    clocks = λ q. by_clock q (nat_eq q p) refl;
    within = λ q. by_within q (nat_eq q p) refl;
  }
    where
      by_clock : (q : ℕ) (t : Bool) → nat_eq q p ≡ t → rank job.limit (v.clock q) ≤ least_clock (share_of job q) (received_in w)
      by_clock q true e =
          let same : q ≡ p = same_number q p e in
          subst (λ (i : ℕ). rank job.limit (v.clock i) ≤ least_clock (share_of job i) (received_in w)) (sym same) turn.heard
      by_clock q false e =
          subst (λ (t : Time). rank job.limit t ≤ least_clock (share_of job q) (received_in w)) (sym (turn.others q e)) (holds.clocks q)

      by_within : (q : ℕ) (t : Bool) → nat_eq q p ≡ t → IsWithin (share_of job q) (v.clock q)
      by_within q true e =
          let same : q ≡ p = same_number q p e in subst (λ (i : ℕ). IsWithin (share_of job i) (v.clock i)) (sym same) turn.within
      by_within q false e = subst (IsWithin (share_of job q)) (sym (turn.others q e)) (holds.within q)

  -- a link whose packets stay true and whose channel clock does not fall
  after_move : (w v : World) (l : ℕ) (after : LinkState) → Holds w → IsMove l after w v → all_of after ≡ all_of (w.link l) →
      ((c : Channel) → slice_get job.channels l ≡ Some c →
      rank job.limit (channel_clock (received_in w l)) ≤ rank job.limit (channel_clock after.received))
      → Keeps w v
  after_move w v l after holds move all rise = record {
    truth = λ m c e. by_truth m c e (nat_eq m l) refl;
    rises = λ m c e. by_rise m c e (nat_eq m l) refl;
    clocks = λ p. subst (λ (clock : ℕ → Time). rank job.limit (clock p) ≤ least_clock (share_of job p) (received_in w)) (sym move.clock)
        (holds.clocks p);
    within = λ p. subst (λ (clock : ℕ → Time). IsWithin (share_of job p) (clock p)) (sym move.clock) (holds.within p);
  }
    where
      by_truth : (m : ℕ) (c : Channel) → slice_get job.channels m ≡ Some c → (t : Bool) → nat_eq m l ≡ t → IsTrueLink m c (v.link m)
      by_truth m c e true d =
          let same : m ≡ l = same_number m l d in
          let packets : all_of (v.link m) ≡ all_of (w.link m) = ap (λ (i : ℕ). all_of (v.link i)) same ∙ ap all_of move.link ∙ all
          ∙ ap (λ (i : ℕ). all_of (w.link i)) (sym same) in
          subst (AreTrue job m c first_time) (sym packets) (holds.truth m c e)
      by_truth m c e false d = subst (IsTrueLink m c) (sym (move.others m d)) (holds.truth m c e)

      by_rise : (m : ℕ) (c : Channel) → slice_get job.channels m ≡ Some c → (t : Bool) → nat_eq m l ≡ t →
          rank job.limit (channel_clock (received_in w m)) ≤ rank job.limit (channel_clock (received_in v m))
      by_rise m c e true d =
          let same : m ≡ l = same_number m l d in
          let here : slice_get job.channels l ≡ Some c = ap (slice_get job.channels) (sym same) ∙ e in
          let now : rank job.limit (channel_clock (received_in v l)) ≡ rank job.limit (channel_clock after.received)
          = ap (λ (x : LinkState). rank job.limit (channel_clock x.received)) move.link in
          subst (λ (i : ℕ). rank job.limit (channel_clock (received_in w i)) ≤ rank job.limit (channel_clock (received_in v i))) (sym same)
          (omega (arith, rise c here))
      by_rise m c e false d =
          let eq : rank job.limit (channel_clock (received_in w m)) ≡ rank job.limit (channel_clock (received_in v m))
          = ap (λ (x : LinkState). rank job.limit (channel_clock x.received)) (sym (move.others m d)) in
          omega arith

  took_later : (l : ℕ) (c : Channel) (x : LinkState) (queue : List Packet) → x.queued ≡ queue → IsTrueLink l c x →
      rank job.limit (channel_clock x.received) ≤ rank job.limit (channel_clock (took_front x queue).received)
  took_later l c x [] e h = omega arith
  took_later l c x (p ∷ rest) e h =
      let same : all_of x ≡ x.received ++ (p ∷ (rest ++ packets_in x.standing))
      = ap (λ (queue : List Packet). x.received ++ (queue ++ packets_in x.standing)) e in
      clock_rises job l c first_time x.received p (rest ++ packets_in x.standing) (subst (AreTrue job l c first_time) same h)

  after_done : (w v : World) (s : Step) → Holds w → Does job s w v → Holds v
  after_done w v (Turn p) holds does = kept_holds w v (after_turn w v p holds does)
  after_done w v (Put l) holds does =
      kept_holds w v (after_move w v l (after_put (w.link l)) holds does (put_all (w.link l)) (λ c e. omega arith))
  after_done w v (Take l) holds does =
      kept_holds w v
      (after_move w v l (after_take (w.link l)) holds does (took_all (w.link l) (w.link l).queued refl)
      (λ c e. took_later l c (w.link l) (w.link l).queued refl (holds.truth l c e)))
  after_done w v (Stop p) holds does = record {
    truth = subst (λ (link : ℕ → LinkState). (l : ℕ) (c : Channel) → slice_get job.channels l ≡ Some c → IsTrueLink l c (link l))
        (sym does.link) holds.truth;
    clocks = λ p.
        subst (λ (link : ℕ → LinkState). rank job.limit (v.clock p) ≤ least_clock (share_of job p) (λ l. (link l).received)) (sym does.link)
        (subst (λ (clock : ℕ → Time). rank job.limit (clock p) ≤ least_clock (share_of job p) (received_in w)) (sym does.clock)
        (holds.clocks p));
    within = λ p. subst (λ (clock : ℕ → Time). IsWithin (share_of job p) (clock p)) (sym does.clock) (holds.within p);
  }

  answered : (w v : World) (s : Step) (reply : Reply) → Holds w → Answers job s reply w v → Holds v
  answered w v s Done holds h = after_done w v s holds h
  answered w v s Refused holds h = absurd h
  answered w v s Stopped holds h = absurd h
  answered w v s Empty holds h = absurd h
  answered w v s Full holds h = absurd h
  answered w v (Turn p) Memory holds h = subst Holds (sym h) holds
  answered w v (Put l) Memory holds h = subst Holds (sym h) holds
  answered w v (Take l) Memory holds h = subst Holds (sym h) holds
  answered w v (Stop p) Memory holds h = absurd h

  stepped : (w v : World) (s : Step) (reply : Reply) (o : Option Reply) → Holds w → AnswersBy o job s reply w v → Holds v
  stepped w v s reply None holds h = answered w v s reply holds h
  stepped w v s reply (Some r) holds h = subst Holds (sym h.1) holds

  pub holds_after : (w v : World) (ss : List (Step × Reply)) → Holds w → IsRun job ss w v → Holds v
  holds_after w v [] holds h = subst Holds (sym h) holds
  holds_after w v (s ∷ ss) holds h = holds_after h.0 v ss (stepped w h.0 s.0 s.1 (refusal job w s.0) holds h.1) h.2

  least_0 : (limit bound : ℕ) (ls : List ℕ) (received : ℕ → List Packet) → 0 ≤ least_of limit bound ls received
  least_0 limit bound ls received = omega arith

  pub holds_at_first : (capacity : ℕ) → Holds (new_world capacity)
  holds_at_first capacity = record {
    truth = λ l c e. tt;
    clocks = λ p. omega arith;
    within = λ p. (omega arith, omega arith);
  }

  module _ (w : World) (holds : Holds w) (p : ℕ) where
    pub heard_crossing : (n : ℕ) → n < rank job.limit (w.clock p) →
        SameFor (owned job p) (deliveries_at job.limit (all_events (incoming_from p 0 job.channels) (events_by (received_in w))) n)
        (crossings job.limit job.flat job.outside (others (owned job p)) (owned job p) n)
    heard_crossing n lt = heard_before fits job good p (received_in w) (received_true w holds) n (omega (arith, holds.clocks p))

    pub components_now : components_by (share_of job p) (events_by (received_in w)) (rank job.limit (w.clock p))
        ≡ kept (owned job p) (numbers job.flat.members) (components_at job.limit (whole job.flat) job.outside (rank job.limit (w.clock p)))
    components_now =
        components_of_share job.limit job.flat job.outside (owned job p)
        (deliveries_at job.limit (all_events (incoming_from p 0 job.channels) (events_by (received_in w))))
        (rank job.limit (w.clock p)) heard_crossing

    pub part_now : part_by (share_of job p) (events_by (received_in w)) (rank job.limit (w.clock p))
        ≡ part_before (owned job p) job.limit (whole job.flat) job.outside (rank job.limit (w.clock p))
    part_now =
        part_of_share job.limit job.flat job.outside (owned job p)
        (deliveries_at job.limit (all_events (incoming_from p 0 job.channels) (events_by (received_in w))))
        (rank job.limit (w.clock p)) heard_crossing

-- each packet takes a rank at least
each_takes : (job : Job) (l : ℕ) (c : Channel) (start : Time) (ps : List Packet) → AreTrue job l c start ps →
    rank job.limit start + length ps ≤ rank job.limit (clock_after start ps)
each_takes job l c start [] h = omega arith
each_takes job l c start (p ∷ ps) h =
    let truth : IsTruePacket job l c p = h.1 in
    let first : rank job.limit p.from ≡ rank job.limit start = ap (rank job.limit) h.0 in
    let rest = each_takes job l c p.upto ps h.2 in
    omega (arith, truth.later)

last_within : (job : Job) (l : ℕ) (c : Channel) (start : Time) (ps : List Packet) → rank job.limit start ≤ end_of job.limit job.horizon →
    AreTrue job l c start ps → rank job.limit (clock_after start ps) ≤ end_of job.limit job.horizon
last_within job l c start [] le h = le
last_within job l c start (p ∷ ps) le h =
    let truth : IsTruePacket job l c p = h.1 in last_within job l c p.upto ps truth.within.1 h.2

pub few_packets : (job : Job) (l : ℕ) (c : Channel) (ps : List Packet) → AreTrue job l c first_time ps →
    length ps ≤ end_of job.limit job.horizon
few_packets job l c ps h =
    let last = last_within job l c first_time ps (omega arith) h in
    omega (arith, each_takes job l c first_time ps h)
