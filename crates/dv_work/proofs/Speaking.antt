-- A process that was fed truly has committed its part, and what it prepares is true; turns, packets that come and packets that leave
-- keep that.
use Rattle.std.proofs.Common.{◌≡◌, inl, inr, ℕ, ◌+◌, ◌-◌, ◌≤◌, Bool, true, false, nat_eq, if◌then◌else◌, List, [], ◌∷◌, ◌++◌}
use Rattle.std.proofs.Common.{append-nil, Option, Some, refl, sym, ap, subst, ◌∙◌, arith}
use Rattle.std.specs.List.{slice_get}
use Rattle.dv_time.specs.Time.{rank}
use Rattle.dv_time.specs.declared.time.Time.{Time}
use Rattle.dv_devs.specs.Parts.{part_before}
use Rattle.dv_conservative.specs.Alike.{AreAlike}
use Rattle.dv_conservative.specs.Events.{deliveries_at}
use Rattle.dv_conservative.specs.Flat.{whole}
use Rattle.dv_conservative.specs.Process.{IsWithin, Packet, Share, all_events, channel_clock, clock_after, end_rank, events_by}
use Rattle.dv_conservative.specs.Process.{first_time, least_clock, packet_of, part_by, sent_on}
use Rattle.dv_conservative.specs.True.{AreTrue, IsTruePacket, crossing_by}
use Rattle.dv_conservative.specs.Turn.{IsTurnOf, MayBecome, Turned}
use Rattle.dv_conservative.specs.World.{Channel, Job, incoming_from, outgoing_on, owned, packets_in, share_of}
use Rattle.dv_conservative.proofs.Crossing.{heard_before, settled_is_true, true_first}
use Rattle.dv_conservative.proofs.Holding.{joins}
use Rattle.dv_conservative.proofs.Kept.{part_of_share}
use Rattle.dv_conservative.proofs.Lists.{became_of}
use Rattle.dv_conservative.proofs.Local.{same_number}
use Rattle.dv_conservative.proofs.SameRuns.{same_limit, same_part, same_turn}
use Rattle.dv_conservative.proofs.Settled.{promise_settled}
use Rattle.dv_conservative.proofs.Turning.{share_is_sound}
use Rattle.dv_conservative.proofs.Windows.{same_windows}
use Rattle.dv_core.specs.ProcessState.{IsReceived, IsSent, IsTurned, ProcessState}
use Rattle.dv_core.proofs.Lookups.{number_itself}
use Rattle.dv_link.specs.Carries.{AreTrueOn}
use Rattle.dv_work.specs.Ends.{given}
use Rattle.dv_work.specs.Seats.{Gives, IsFedTruly, prepared}
use Rattle.dv_work.specs.declared.seat.Out.{Out}
use Rattle.dv_work.proofs.Numbers.{received_numbers}
use Rattle.dv_work.proofs.Packets.{clock_rises, last_of_true, least_rises}

module _ (job : Job) (p : ℕ) (x : ProcessState) (fed : IsFedTruly job p x) where
  -- it has committed its part of the whole run
  pub speaks : x.part ≡ part_before (owned job p) job.limit (whole job.flat) job.outside (rank job.limit x.position.clock)
  speaks =
      let n = rank job.limit x.position.clock in
      fed.committed
      ∙ same_part x.share (share_of job p) fed.alike (events_by x.received) (rank x.share.limit x.position.clock)
      ∙ ap (λ (limit : ℕ). part_by (share_of job p) (events_by x.received) (rank limit x.position.clock))
      (same_limit x.share (share_of job p) fed.alike)
      ∙ part_of_share job.limit job.flat job.outside (owned job p)
      (deliveries_at job.limit (all_events (incoming_from p 0 job.channels) (events_by x.received))) n
      (λ m lt. heard_before fed.fits job fed.sound p x.received fed.truth m (omega (arith, fed.heard)))

  -- a turn
  module _ (y : ProcessState) (answer : Turned) (turned : IsTurned answer x y) where
    own_turn : IsTurnOf (share_of job p) x.received x.position y.position
    own_turn = same_turn x.share (share_of job p) fed.alike x.received x.position y.position turned.turn

    -- the clock does not fall
    pub turned_later : rank job.limit x.position.clock ≤ rank job.limit y.position.clock
    turned_later = own_turn.may.rises

    pub turned_fed : IsFedTruly job p y
    turned_fed = record {
      fits = fed.fits;
      sound = fed.sound;
      there = fed.there;
      alike = subst (λ (s : Share). AreAlike s (share_of job p)) (sym turned.share) fed.alike;
      committed = turned.committed;
      truth = subst (λ (f : ℕ → List Packet). (l : ℕ) (c : Channel) → slice_get job.channels l ≡ Some c → AreTrue job l c first_time (f l))
          (sym turned.received) fed.truth;
      heard = subst (λ (f : ℕ → List Packet). rank job.limit y.position.clock ≤ least_clock (share_of job p) f) (sym turned.received)
          own_turn.may.heard;
      within = own_turn.may.within;
    }

    module _ (o : Out) (gives : Gives job p x o) where
      became : MayBecome (share_of job p) x.received (outgoing_on job o.number gives.channel) x.position y.position
      became =
          let number : 0 + o.number ≡ o.number = omega arith in
          let own : nat_eq gives.channel.source p ≡ true
          = subst (λ (q : ℕ). nat_eq q p ≡ true) (sym gives.own) (number_itself p) in
          subst (λ (n : ℕ). MayBecome (share_of job p) x.received (outgoing_on job n gives.channel) x.position y.position) number
          (became_of job (share_of job p) x.received x.position y.position p 0 job.channels o.number gives.channel own_turn.may.links
          gives.there own)

      by_become : MayBecome (share_of job p) x.received (outgoing_on job o.number gives.channel) x.position y.position → Gives job p y o
      by_become (inl stays) =
          let same : prepared x o ≡ prepared y o
          = ap (λ (s : Option Packet). given o ++ packets_in s) (sym stays.stands) in record {
            channel = gives.channel;
            there = gives.there;
            own = gives.own;
            truth = subst (AreTrue job o.number gives.channel first_time) same gives.truth;
            promised = stays.promised ∙ gives.promised ∙ ap (clock_after first_time) same;
          }
      by_become (inr made) =
          let c = gives.channel in
          let s = share_of job p in
          let from = x.position.promised o.number in
          let packet = packet_of s (events_by x.received) (outgoing_on job o.number c) from made.upto in
          let settled = promise_settled fed.fits s x.received (share_is_sound fed.fits job p fed.sound)
          (received_numbers fed.fits job fed.sound p x.received fed.truth)
          (rank job.limit y.position.clock) own_turn.may.heard
          (outgoing_on job o.number c) made.upto made.kept in
          let same = same_windows job.limit (sent_on s (events_by x.received) (outgoing_on job o.number c)) (crossing_by job c)
          (rank job.limit from)
          (rank job.limit made.upto - rank job.limit from)
          (λ n le lt. settled_is_true fed.fits job fed.sound p x.received fed.truth o.number c made.upto gives.own settled n
          (omega (arith, made.later))
          (omega (arith, made.later, made.within))) in
          let truth : IsTruePacket job o.number c packet
          = record { link = refl; later = made.later; within = made.within; events = same } in
          let before : prepared x o ≡ given o
          = ap (λ (z : Option Packet). given o ++ packets_in z) made.free ∙ append-nil (given o) in
          let after : given o ++ packet ∷ [] ≡ prepared y o
          = ap (λ (z : Option Packet). given o ++ packets_in z) (sym made.stands) in
          let first : packet.from ≡ clock_after first_time (given o) = gives.promised ∙ ap (clock_after first_time) before in record {
            channel = c;
            there = gives.there;
            own = gives.own;
            truth = subst (AreTrue job o.number c first_time) after
                (joins job o.number c first_time (given o) packet (subst (AreTrue job o.number c first_time) before gives.truth) first
                truth);
            promised = made.promised ∙ sym (last_upto (given o) packet) ∙ ap (clock_after first_time) after;
          }
        where
          last_upto : (ps : List Packet) (q : Packet) → clock_after first_time (ps ++ q ∷ []) ≡ q.upto
          last_upto ps q = upto_of first_time ps q
            where
              upto_of : (start : Time) (ps : List Packet) (q : Packet) → clock_after start (ps ++ q ∷ []) ≡ q.upto
              upto_of start [] q = refl
              upto_of start (r ∷ rs) q = upto_of r.upto rs q

      pub turned_gives : Gives job p y o
      turned_gives = by_become became

  -- a packet that comes
  module _ (y : ProcessState) (packet : Packet) (got : IsReceived packet x y) (l : ℕ) (c : Channel)
      (there : slice_get job.channels l ≡ Some c) (truth : AreTrue job l c first_time (x.received l ++ packet ∷ [])) where
    on_link : packet.link ≡ l
    on_link = (last_of_true job l c first_time (x.received l) packet truth).1.link

    pub now_received : y.received l ≡ x.received l ++ packet ∷ []
    now_received =
        ap (λ (f : ℕ → List Packet). f l) got.received
        ∙ ap (λ (t : Bool). if t then x.received l ++ packet ∷ [] else x.received l)
        (subst (λ (n : ℕ). nat_eq l n ≡ true) (sym on_link) (number_itself l))

    pub others_received : (m : ℕ) → nat_eq m l ≡ false → y.received m ≡ x.received m
    others_received m other =
        ap (λ (f : ℕ → List Packet). f m) got.received
        ∙ ap (λ (t : Bool). if t then x.received m ++ packet ∷ [] else x.received m)
        (subst (λ (n : ℕ). nat_eq m n ≡ false) (sym on_link) other)

    true_now : (m : ℕ) (d : Channel) → slice_get job.channels m ≡ Some d → (t : Bool) → nat_eq m l ≡ t
        → AreTrue job m d first_time (y.received m)
    true_now m d e true own =
        let index : m ≡ l = same_number m l own in
        let at : slice_get job.channels l ≡ Some d = subst (λ (n : ℕ). slice_get job.channels n ≡ Some d) index e in
        let same : c ≡ d = cc in
        subst (λ (n : ℕ). AreTrue job n d first_time (y.received n)) (sym index)
        (subst (λ (ps : List Packet). AreTrue job l d first_time ps) (sym now_received)
        (subst (λ (b : Channel). AreTrue job l b first_time (x.received l ++ packet ∷ [])) same truth))
    true_now m d e false other = subst (AreTrue job m d first_time) (sym (others_received m other)) (fed.truth m d e)

    rises : (m : ℕ) (t : Bool) → nat_eq m l ≡ t
        → rank job.limit (channel_clock (x.received m)) ≤ rank job.limit (channel_clock (y.received m))
    rises m true own =
        let index : m ≡ l = same_number m l own in
        subst (λ (n : ℕ). rank job.limit (channel_clock (x.received n)) ≤ rank job.limit (channel_clock (y.received n))) (sym index)
        (subst (λ (ps : List Packet). rank job.limit (channel_clock (x.received l)) ≤ rank job.limit (channel_clock ps)) (sym now_received)
        (clock_rises job l c (x.received l) packet truth))
    rises m false other =
        let same : rank job.limit (channel_clock (y.received m)) ≡ rank job.limit (channel_clock (x.received m))
        = ap (λ (ps : List Packet). rank job.limit (channel_clock ps)) (others_received m other) in
        omega arith

    pub received_fed : IsFedTruly job p y
    received_fed =
        let least = least_rises job.limit (end_rank (share_of job p)) p x.received y.received 0 job.channels
        (λ i d e. rises (0 + i) (nat_eq (0 + i) l) refl) in
        let clock : rank job.limit y.position.clock ≡ rank job.limit x.position.clock
        = ap (λ pos. rank job.limit pos.clock) got.position in record {
          fits = fed.fits;
          sound = fed.sound;
          there = fed.there;
          alike = subst (λ (s : Share). AreAlike s (share_of job p)) (sym got.share) fed.alike;
          committed = got.committed;
          truth = λ m d e. true_now m d e (nat_eq m l) refl;
          heard = omega (arith, fed.heard);
          within = subst (λ pos. IsWithin (share_of job p) pos.clock) (sym got.position) fed.within;
        }

    pub received_gives : (o : Out) → Gives job p x o → Gives job p y o
    received_gives o gives = record {
      channel = gives.channel;
      there = gives.there;
      own = gives.own;
      truth = subst (λ pos. AreTrue job o.number gives.channel first_time (given o ++ packets_in (pos.standing o.number)))
          (sym got.position)
          gives.truth;
      promised = subst (λ pos. pos.promised o.number ≡ clock_after first_time (given o ++ packets_in (pos.standing o.number)))
          (sym got.position) gives.promised;
    }

  -- a packet that leaves
  module _ (y : ProcessState) (l : ℕ) (sent : IsSent l x y) where
    pub sent_fed : IsFedTruly job p y
    sent_fed = record {
      fits = fed.fits;
      sound = fed.sound;
      there = fed.there;
      alike = subst (λ (s : Share). AreAlike s (share_of job p)) (sym sent.share) fed.alike;
      committed = sent.part ∙ fed.committed
          ∙ ap (λ (s : Share). part_by s (events_by x.received) (rank s.limit x.position.clock)) (sym sent.share)
          ∙ ap (λ (f : ℕ → List Packet). part_by y.share (events_by f) (rank y.share.limit x.position.clock)) (sym sent.received)
          ∙ ap (λ (t : Time). part_by y.share (events_by y.received) (rank y.share.limit t)) (sym sent.clock);
      truth = subst (λ (f : ℕ → List Packet). (l : ℕ) (c : Channel) → slice_get job.channels l ≡ Some c → AreTrue job l c first_time (f l))
          (sym sent.received) fed.truth;
      heard = subst (λ (f : ℕ → List Packet). rank job.limit y.position.clock ≤ least_clock (share_of job p) f) (sym sent.received)
          (subst (λ (t : Time). rank job.limit t ≤ least_clock (share_of job p) x.received) (sym sent.clock) fed.heard);
      within = subst (IsWithin (share_of job p)) (sym sent.clock) fed.within;
    }

    -- an end to which it was not given
    pub sent_beside : (o : Out) → Gives job p x o → nat_eq o.number l ≡ false → Gives job p y o
    sent_beside o gives other =
        let same : prepared x o ≡ prepared y o
        = ap (λ (s : Option Packet). given o ++ packets_in s) (sym (sent.others o.number other)) in record {
          channel = gives.channel;
          there = gives.there;
          own = gives.own;
          truth = subst (AreTrue job o.number gives.channel first_time) same gives.truth;
          promised = ap (λ (f : ℕ → Time). f o.number) sent.promised ∙ gives.promised ∙ ap (clock_after first_time) same;
        }

    -- the end to which it was given
    pub sent_here : (o q : Out) (packet : Packet) → Gives job p x o → o.number ≡ l → q.number ≡ o.number
        → x.position.standing l ≡ Some packet → given q ≡ given o ++ packet ∷ [] → Gives job p y q
    sent_here o q packet gives here number stood is =
        let was : prepared x o ≡ given o ++ packet ∷ []
        = ap (λ (n : ℕ). given o ++ packets_in (x.position.standing n)) here ∙ ap (λ (s : Option Packet). given o ++ packets_in s) stood in
        let index : q.number ≡ l = number ∙ here in
        let now : prepared y q ≡ given q
        = ap (λ (n : ℕ). given q ++ packets_in (y.position.standing n)) index
        ∙ ap (λ (s : Option Packet). given q ++ packets_in s) sent.free ∙ append-nil (given q) in
        let same : prepared x o ≡ prepared y q = was ∙ sym is ∙ sym now in record {
          channel = gives.channel;
          there = ap (slice_get job.channels) number ∙ gives.there;
          own = gives.own;
          truth = subst (λ (n : ℕ). AreTrue job n gives.channel first_time (prepared y q)) (sym number)
              (subst (AreTrue job o.number gives.channel first_time) same gives.truth);
          promised = ap (λ (f : ℕ → Time). f q.number) sent.promised ∙ ap x.position.promised number ∙ gives.promised
              ∙ ap (clock_after first_time) same;
        }

-- an end to which the same was given
pub given_the_same : (job : Job) (p : ℕ) (x : ProcessState) (o q : Out) → q.number ≡ o.number → given q ≡ given o → Gives job p x o
    → Gives job p x q
given_the_same job p x o q number is gives =
    let same : prepared x o ≡ prepared x q
    = ap (λ (ps : List Packet). ps ++ packets_in (x.position.standing o.number)) (sym is)
    ∙ ap (λ (n : ℕ). given q ++ packets_in (x.position.standing n)) (sym number) in record {
      channel = gives.channel;
      there = ap (slice_get job.channels) number ∙ gives.there;
      own = gives.own;
      truth = subst (λ (n : ℕ). AreTrue job n gives.channel first_time (prepared x q)) (sym number)
          (subst (AreTrue job o.number gives.channel first_time) same gives.truth);
      promised = ap x.position.promised number ∙ gives.promised ∙ ap (clock_after first_time) same;
    }

-- what was given to an end is true
pub given_is_true : (job : Job) (p : ℕ) (x : ProcessState) (o : Out) → Gives job p x o → AreTrueOn job o.number (given o)
given_is_true job p x o gives = record {
  channel = gives.channel;
  there = gives.there;
  truth = true_first job o.number gives.channel first_time (given o) (packets_in (x.position.standing o.number)) gives.truth;
}
