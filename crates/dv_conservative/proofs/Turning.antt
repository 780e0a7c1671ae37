-- What a turn may do is a step of the world; and where it waits, nothing can change.
use Rattle.std.proofs.Common.{◌≡◌, ◌⊎◌, inl, inr, ℕ, suc, zero, ◌+◌, ◌-◌, Bool, true, false, ◌&&◌, ◌||◌, cond, nat_eq, nat_lt}
use Rattle.std.proofs.Common.{List, [], ◌∷◌, ◌++◌, map, Option, Some, None, refl, sym, ap, subst, ◌∙◌, arith}
use Rattle.std.specs.List.{filter, slice_get}
use Rattle.std.proofs.lemmas.Bool.Decides.{nat_tests}
use Rattle.dv_time.specs.Time.{rank, time_of}
use Rattle.dv_time.specs.declared.time.Time.{Time}
use Rattle.dv_time.proofs.Ranks.{time_of-rank}
use Rattle.dv_bag.specs.declared.state.State.{State}
use Rattle.dv_conservative.specs.Events.{Event, event_of, events_from, in_order}
use Rattle.dv_conservative.specs.Flat.{Member}
use Rattle.dv_conservative.specs.Links.{Delivery}
use Rattle.dv_conservative.specs.Process.{Outgoing, Packet, Share, end_rank, events_by, events_in, first_time, promise}
use Rattle.dv_conservative.specs.Sound.{AllNumbers, AllReceivedNumbers, AllSound, IsJob, IsSound, IsSoundShare}
use Rattle.dv_conservative.specs.True.{AreTrue, IsTruePacket, crossing_by}
use Rattle.dv_conservative.specs.Turn.{AllMayBecome, AllPromised, AllStayOn, IsPromised, IsTurnOf, MayBecome, MayTurn, Moved}
use Rattle.dv_conservative.specs.Turn.{Waiting, Position, Prepares, Progresses, StaysOn, Turned, all_free, some_prepared}
use Rattle.dv_conservative.specs.Turn.{turned}
use Rattle.dv_conservative.specs.Turn
use Rattle.dv_conservative.specs.World.{Channel, IsPreparedOn, IsTurn, Job, LinkState, StaysBeside, World, incoming_from}
use Rattle.dv_conservative.specs.World.{outgoing_on, owned, position_in, received_in, share_of}
use Rattle.dv_conservative.proofs.Crossing.{crossing_numbers}
use Rattle.dv_conservative.proofs.Holding.{Holds, received_true}
use Rattle.dv_conservative.proofs.Lists.{became_of}
use Rattle.dv_conservative.proofs.Local.{same_number}
use Rattle.dv_conservative.proofs.Numbers.{OfNumbers, numbers_in_order}
use Rattle.dv_conservative.proofs.Settled.{events_append, promise_settled}

-- a link with what stands at its sender
abbrev index : LinkState → Option Packet → LinkState
index x standing = record { capacity = x.capacity; received = x.received; queued = x.queued; standing = standing }

-- the components of a share are sound, with the response of its process
sound_share : (fits : ℕ → State → Bool) (job : Job) (p : ℕ) (ms : List Member) → AllSound fits (λ k. job.responses (job.owner k)) ms →
    AllSound fits (λ k. job.responses p) (filter (λ (m : Member). owned job p m.number) ms)
sound_share fits job p [] h = tt
sound_share fits job p (m ∷ ms) h = by_owner (sound_share fits job p ms h.1) (owned job p m.number) refl
  where
    by_owner : AllSound fits (λ k. job.responses p) (filter (λ (m : Member). owned job p m.number) ms) → (t : Bool) →
        owned job p m.number ≡ t →
        AllSound fits (λ k. job.responses p)
        (cond t (m ∷ filter (λ (m : Member). owned job p m.number) ms) (filter (λ (m : Member). owned job p m.number) ms))
    by_owner rest true e =
        let same : job.owner m.number ≡ p = same_number (job.owner m.number) p e in
        (subst (λ (q : ℕ). IsSound (fits m.number) (job.responses q) m) same h.0, rest)
    by_owner rest false e = rest

pub share_is_sound : (fits : ℕ → State → Bool) (job : Job) (p : ℕ) → IsJob fits job → IsSoundShare fits (share_of job p)
share_is_sound fits job p good = record { sound = sound_share fits job p job.flat.members good.sound; outside = good.outside }

-- events of true packets are of numbers
numbers_at_time : (t : Time) (ds : List Delivery) (es : List Event) → OfNumbers ds → AllNumbers es → AllNumbers (map (event_of t) ds ++ es)
numbers_at_time t [] es h k = k
numbers_at_time t (d ∷ ds) es h k = (h.0, numbers_at_time t ds es h.1 k)

window_numbers : (limit : ℕ) (stream : ℕ → List Delivery) (start count : ℕ) → ((n : ℕ) → OfNumbers (stream n)) →
    AllNumbers (events_from limit stream start count)
window_numbers limit stream start zero h = tt
window_numbers limit stream start (suc count) h =
    numbers_at_time (time_of limit start) (in_order (stream start)) (events_from limit stream (start + 1) count)
    (numbers_in_order (stream start) (h start)) (window_numbers limit stream (start + 1) count h)

module _ (fits : ℕ → State → Bool) (job : Job) (good : IsJob fits job) where
  true_numbers : (l : ℕ) (c : Channel) (start : Time) (ps : List Packet) → AreTrue job l c start ps → AllNumbers (events_in ps)
  true_numbers l c start [] h = tt
  true_numbers l c start (p ∷ ps) h =
      let truth : IsTruePacket job l c p = h.1 in
      events_append p.events (events_in ps)
      (subst AllNumbers (sym truth.events)
      (window_numbers job.limit (crossing_by job c) (rank job.limit p.from) (rank job.limit p.upto - rank job.limit p.from)
      (crossing_numbers fits job good c)))
      (true_numbers l c p.upto ps h.2)

  numbers_on : (q base : ℕ) (received : ℕ → List Packet) (chs : List Channel) →
      ((i : ℕ) (c : Channel) → slice_get chs i ≡ Some c → AllNumbers (events_by received (base + i)))
      → AllReceivedNumbers received (incoming_from q base chs)
  numbers_on q base received [] h = tt
  numbers_on q base received (c ∷ cs) h =
      let number : base + 0 ≡ base = omega arith in
      by_target (subst (λ (n : ℕ). AllNumbers (events_by received n)) number (h 0 c refl))
      (numbers_on q (suc base) received cs (λ i d e.
      let next : base + suc i ≡ suc base + i = omega arith in subst (λ (n : ℕ). AllNumbers (events_by received n)) next (h (suc i) d e)))
      (nat_eq c.target q)
    where
      by_target : AllNumbers (events_by received base) → AllReceivedNumbers received (incoming_from q (suc base) cs) → (t : Bool) →
          AllReceivedNumbers received (cond t (base ∷ incoming_from q (suc base) cs) (incoming_from q (suc base) cs))
      by_target first rest true = (first, rest)
      by_target first rest false = rest

  module _ (w : World) (holds : Holds fits job good w) where
    received_numbers : (p : ℕ) → AllReceivedNumbers (received_in w) (incoming_from p 0 job.channels)
    received_numbers p = numbers_on p 0 (received_in w) job.channels (λ i c e.
        let number : i ≡ 0 + i = omega arith in
        subst (λ (n : ℕ). AllNumbers (events_by (received_in w) n)) number
        (true_numbers i c first_time (received_in w i) (received_true fits job good w holds i c e)))

    pub turn_is_step : (v : World) (p : ℕ) → MayTurn (share_of job p) (received_in w) (position_in w p) (position_in v p) →
        StaysBeside job p w v → IsTurn job p w v
    turn_is_step v p may beside = record {
      rises = may.rises;
      within = may.within;
      heard = may.heard;
      others = beside.clocks;
      stopped = beside.stopped;
      links = λ l. by_channel l (slice_get job.channels l) refl;
    }
      where
        by_become : (l : ℕ) (c : Channel) → slice_get job.channels l ≡ Some c → nat_eq c.source p ≡ true →
            MayBecome (share_of job p) (received_in w) (outgoing_on job l c) (position_in w p) (position_in v p) →
            (v.link l ≡ w.link l) ⊎ IsPreparedOn job p w v l
        by_become l c e own (inl stays) = inl (beside.own l c e own ∙ ap (index (w.link l)) stays.stands)
        by_become l c e own (inr made) = inr (record {
          channel = c;
          there = e;
          own = same_number c.source p own;
          prepared = record {
            upto = made.upto;
            free = made.free;
            later = made.later;
            within = made.within;
            settled = promise_settled fits (share_of job p) (received_in w) (share_is_sound fits job p good) (received_numbers p)
                (rank job.limit (v.clock p)) may.heard
                (outgoing_on job l c) made.upto made.kept;
            made = beside.own l c e own ∙ ap (index (w.link l)) made.stands;
          };
        })

        by_channel : (l : ℕ) (o : Option Channel) → slice_get job.channels l ≡ o → (v.link l ≡ w.link l) ⊎ IsPreparedOn job p w v l
        by_channel l None e = inl (beside.none l e)
        by_channel l (Some c) e = by_source (nat_eq c.source p) refl
          where
            by_source : (t : Bool) → nat_eq c.source p ≡ t → (v.link l ≡ w.link l) ⊎ IsPreparedOn job p w v l
            by_source true own =
                let number : 0 + l ≡ l = omega arith in
                by_become l c e own
                (subst (λ (n : ℕ). MayBecome (share_of job p) (received_in w) (outgoing_on job n c) (position_in w p) (position_in v p))
                number
                (became_of job (share_of job p) (received_in w) (position_in w p) (position_in v p) p 0 job.channels l c may.links e own))
            by_source false own = inl (beside.others l c e own)

-- where a turn waits
both_false : (a b : Bool) → (a || b) ≡ false → (a ≡ false) × (b ≡ false)
both_false true b h = absurd (cc)
both_false false b h = (refl, h)

waits : (done moved : Bool) → cond done Turn.Done (cond moved Moved Waiting) ≡ Waiting → moved ≡ false
waits true moved h = absurd (cc)
waits false true h = absurd (cc)
waits false false h = refl

module _ (s : Share) (received : ℕ → List Packet) (before after later : Position) (turn : IsTurnOf s received before after)
    (waited : turned s before after ≡ Waiting) (may : MayTurn s received after later) where
  still : (nat_lt (rank s.limit before.clock) (rank s.limit after.clock) ≡ false) × (some_prepared before after s.outgoing ≡ false)
  still =
      both_false (nat_lt (rank s.limit before.clock) (rank s.limit after.clock)) (some_prepared before after s.outgoing)
      (waits (nat_eq (rank s.limit after.clock) (end_rank s) && all_free after s.outgoing) _ waited)

  same_rank : rank s.limit later.clock ≡ rank s.limit after.clock
  same_rank = elim turn.must.clock [
    | inl least ↦ omega (arith, may.rises, may.heard)
    | inr rose ↦ let none = still.0 in absurd (grind (arith, nat_tests))
  ]

  pub waiting_clock : later.clock ≡ after.clock
  waiting_clock =
      sym (time_of-rank s.limit later.clock may.within.0)
      ∙ ap (time_of s.limit) same_rank
      ∙ time_of-rank s.limit after.clock turn.may.within.0

  link_stays : (o : Outgoing) → MayBecome s received o before after → IsPromised s received before after o →
      MayBecome s received o after later →
      StaysOn o after later
  link_stays o was promised (inl stays) = stays
  link_stays o (inr made) promised (inr next) = absurd (two_stand made.stands next.free)
    where
      two_stand : {p : Packet} → after.standing o.number ≡ Some p → after.standing o.number ≡ None → ⊥
      two_stand some none = absurd (cc)
  link_stays o (inl stays) promised (inr next) =
      let free : before.standing o.number ≡ None = sym stays.stands ∙ next.free in
      let enough = promised free in
      let same : promise s received (rank s.limit later.clock) ≡ promise s received (rank s.limit after.clock) =
      ap (promise s received) same_rank in
      absurd (omega (arith, enough.0, next.later, next.kept))

  links_stay : (os : List Outgoing) → AllMayBecome s received before after os → AllPromised s received before after os →
      AllMayBecome s received after later os → AllStayOn os after later
  links_stay [] was promised next = tt
  links_stay (o ∷ os) was promised next = (link_stays o was.0 promised.0 next.0, links_stay os was.1 promised.1 next.1)

  pub waiting_links : AllStayOn s.outgoing after later
  waiting_links = links_stay s.outgoing turn.may.links turn.must.links may.links
