-- What is settled is what crosses.
use Rattle.std.proofs.Common.{◌≡◌, inl, inr, ℕ, suc, zero, ◌+◌, ◌-◌, ◌<◌, ◌≤◌, Bool, true, false, cond, nat_eq, List, [], ◌∷◌}
use Rattle.std.proofs.Common.{◌++◌, append-nil, map, Option, Some, None, sym, ap, ◌∙◌, subst, arith}
use Rattle.std.specs.List.{slice_get}
use Rattle.std.proofs.lemmas.Bool.{cases_lt}
use Rattle.dv_time.specs.Time.{rank, time_of}
use Rattle.dv_time.specs.declared.time.Time.{Time}
use Rattle.dv_bag.specs.declared.state.State.{State}
use Rattle.dv_devs.specs.Behaviour.{Component}
use Rattle.dv_devs.specs.Network.{emissions, emissions_at}
use Rattle.dv_devs.proofs.NextTimes.{rank_at_time}
use Rattle.dv_conservative.specs.Events.{Event, deliveries_at, event_of, events_between, events_from, in_order}
use Rattle.dv_conservative.specs.Flat.{behaviours, crossings, fed, network, numbers, others}
use Rattle.dv_conservative.specs.Links.{Delivery, SameFor, carried, links_between, sent_of}
use Rattle.dv_conservative.specs.Process.{AllMayCome, IsSettled, MayCome, Packet, all_events, and_further, channel_clock}
use Rattle.dv_conservative.specs.Process.{end_rank, events_by, events_in, first_time, least_clock, least_of, sent_on}
use Rattle.dv_conservative.specs.Sound.{IsJob}
use Rattle.dv_conservative.specs.True.{AreTrue, crossing_by}
use Rattle.dv_conservative.specs.World.{Channel, Job, incoming_from, outgoing_on, owned, share_of}
use Rattle.dv_conservative.proofs.Heard.{HeardOn, heard_crossings, in_order_same, true_after, true_within}
use Rattle.dv_conservative.proofs.Local.{sends_of_share}
use Rattle.dv_conservative.proofs.Numbers.{OfNumbers, carries_numbers, numbers_in_order, whole_is}
use Rattle.dv_conservative.proofs.Order.{HaveCopies, copies_of}
use Rattle.dv_conservative.proofs.Windows.{at_append, before_window, within_window}

-- the least channel clock is at most that of each link that leads here
pub least_below : (limit bound q : ℕ) (received : ℕ → List Packet) (base : ℕ) (chs : List Channel) (i : ℕ) (c : Channel) →
    slice_get chs i ≡ Some c → nat_eq c.target q ≡ true →
    least_of limit bound (incoming_from q base chs) received ≤ rank limit (channel_clock (received (base + i)))
least_below limit bound q received base [] i c e here = absurd (cc)
least_below limit bound q received base (d ∷ ds) zero c e here =
    let same : d ≡ c = cc in
    let target : nat_eq d.target q ≡ true = ap (λ (x : Channel). nat_eq x.target q) same ∙ here in
    let number : base + 0 ≡ base = omega arith in
    rw target
    (subst (λ (n : ℕ). least_of limit bound (base ∷ incoming_from q (suc base) ds) received ≤ rank limit (channel_clock (received n)))
    (sym number)
    (omega arith))
least_below limit bound q received base (d ∷ ds) (suc i) c e here =
    let number : suc base + i ≡ base + suc i = omega arith in
    by_test (nat_eq d.target q)
    (subst (λ (n : ℕ). least_of limit bound (incoming_from q (suc base) ds) received ≤ rank limit (channel_clock (received n))) number
    (least_below limit bound q received (suc base) ds i c e here))
  where
    by_test : (t : Bool) →
        least_of limit bound (incoming_from q (suc base) ds) received ≤ rank limit (channel_clock (received (base + suc i))) →
        least_of limit bound (cond t (base ∷ incoming_from q (suc base) ds) (incoming_from q (suc base) ds)) received
        ≤ rank limit (channel_clock (received (base + suc i)))
    by_test true h = omega arith
    by_test false h = h

-- what crosses may come
may_append : (limit : ℕ) (t : Time) (es fs : List Event) → MayCome limit t es → MayCome limit t fs → MayCome limit t (es ++ fs)
may_append limit t [] fs h k = k
may_append limit t (e ∷ es) fs h k = (h.0, h.1, h.2, may_append limit t es fs h.3 k)

may_at : (limit : ℕ) (t : Time) (n : ℕ) (ds : List Delivery) → rank limit t ≤ n → OfNumbers ds → HaveCopies ds →
    MayCome limit t (map (event_of (time_of limit n)) ds)
may_at limit t n [] le h k = tt
may_at limit t n (d ∷ ds) le h k = (omega (arith, rank_at_time limit n), h.0, k.1, may_at limit t n ds le h.1 k.2)

may_window : (limit : ℕ) (t : Time) (stream : ℕ → List Delivery) (start count : ℕ) → rank limit t ≤ start →
    ((n : ℕ) → OfNumbers (stream n)) → MayCome limit t (events_from limit stream start count)
may_window limit t stream start zero le h = tt
may_window limit t stream start (suc count) le h =
    may_append limit t (map (event_of (time_of limit start)) (in_order (stream start))) (events_from limit stream (start + 1) count)
    (may_at limit t start (in_order (stream start)) le (numbers_in_order (stream start) (h start)) (copies_of (stream start)))
    (may_window limit t stream (start + 1) count (omega arith) h)

-- the first of true packets are true
pub true_first : (job : Job) (l : ℕ) (c : Channel) (start : Time) (ps qs : List Packet) → AreTrue job l c start (ps ++ qs) →
    AreTrue job l c start ps
true_first job l c start [] qs h = tt
true_first job l c start (p ∷ ps) qs h = (h.0, h.1, true_first job l c p.upto ps qs h.2)

module _ (fits : ℕ → State → Bool) (job : Job) (good : IsJob fits job) where
  pub crossing_numbers : (c : Channel) (n : ℕ) → OfNumbers (crossing_by job c n)
  crossing_numbers c n =
      subst (λ (cs : List Component).
      OfNumbers (carried (links_between (owned job c.source) (owned job c.target) job.flat.links)
      (sent_of (numbers job.flat.members) (emissions (behaviours job.flat.members) n cs))))
      (sym (whole_is job.limit job.flat job.outside n))
      (carries_numbers fits (λ k. job.responses (job.owner k)) job.limit job.flat good.sound (fed job.outside (λ n. [])) good.outside
      (λ n. tt)
      (links_between (owned job c.source) (owned job c.target) job.flat.links) n)

  -- true packets were received on every link that leads to a process
  module _ (q : ℕ) (received : ℕ → List Packet)
      (truth : (l : ℕ) (c : Channel) → slice_get job.channels l ≡ Some c → AreTrue job l c first_time (received l)) where
    -- up to the least channel clock it has heard what crosses
    pub heard_before : (n : ℕ) → n < least_clock (share_of job q) received →
        SameFor (owned job q) (deliveries_at job.limit (all_events (incoming_from q 0 job.channels) (events_by received)) n)
        (crossings job.limit job.flat job.outside (others (owned job q)) (owned job q) n)
    heard_before n lt = heard_crossings job q n (events_by received) (good.apart q) (good.heard q) on
      where
        on : (l : ℕ) (c : Channel) → slice_get job.channels l ≡ Some c → HeardOn job q n (events_by received) l c
        on l c e here =
            let number : 0 + l ≡ l = omega arith in
            let least : least_clock (share_of job q) received ≤ rank job.limit (channel_clock (received l))
            = subst (λ (m : ℕ). least_clock (share_of job q) received ≤ rank job.limit (channel_clock (received m))) number
            (least_below job.limit (end_rank (share_of job q)) q received 0 job.channels l c e here) in
            in_order_same (owned job q) (deliveries_at job.limit (events_in (received l)) n) (crossing_by job c n)
            (true_within job l c first_time (received l) n (truth l c e) (omega arith) (omega arith))

    -- what truly comes after it
    coming : (upto : Time) (l : ℕ) → Option Channel → List Event
    coming upto l None = []
    coming upto l (Some c) =
        events_between job.limit (crossing_by job c) (rank job.limit (channel_clock (received l))) (rank job.limit upto)

    all_coming : Time → ℕ → List Event
    all_coming upto l = coming upto l (slice_get job.channels l)

    may_come : (upto : Time) (l : ℕ) (o : Option Channel) → MayCome job.limit (channel_clock (received l)) (coming upto l o)
    unfolding coming
    may_come upto l None = tt
    may_come upto l (Some c) =
        may_window job.limit (channel_clock (received l)) (crossing_by job c) (rank job.limit (channel_clock (received l)))
        (rank job.limit upto - rank job.limit (channel_clock (received l))) (omega arith) (crossing_numbers c)

    all_may_come : (upto : Time) (ls : List ℕ) → AllMayCome job.limit received ls (all_coming upto)
    unfolding all_coming
    all_may_come upto [] = tt
    all_may_come upto (l ∷ ls) = (may_come upto l (slice_get job.channels l), all_may_come upto ls)

    -- what was received and what truly comes is what crosses
    comes_true : (upto : Time) (l : ℕ) (c : Channel) (n : ℕ) → slice_get job.channels l ≡ Some c → n < rank job.limit upto →
        deliveries_at job.limit (and_further received (all_coming upto) l) n ≡ in_order (crossing_by job c n)
    unfolding all_coming coming
    comes_true upto l c n e lt =
        at_append job.limit (events_in (received l)) (coming upto l (slice_get job.channels l)) n
        ∙ ap (λ (o : Option Channel). deliveries_at job.limit (events_in (received l)) n ++ deliveries_at job.limit (coming upto l o) n) e
        ∙ elim (cases_lt n (rank job.limit (channel_clock (received l)))) [
          | inl before ↦
              ap (λ (ds : List Delivery). deliveries_at job.limit (events_in (received l)) n ++ ds)
              (before_window job.limit (crossing_by job c) (rank job.limit (channel_clock (received l))) (rank job.limit upto) n before)
              ∙ append-nil (deliveries_at job.limit (events_in (received l)) n)
              ∙ true_within job l c first_time (received l) n (truth l c e) (omega arith) before
          | inr after ↦
              ap (λ (ds : List Delivery).
              ds ++ deliveries_at job.limit
              (events_between job.limit (crossing_by job c) (rank job.limit (channel_clock (received l))) (rank job.limit upto)) n)
              (true_after job l c first_time (received l) n (truth l c e) after)
              ∙ within_window job.limit (crossing_by job c) (rank job.limit (channel_clock (received l))) (rank job.limit upto) n after lt
        ]

    -- what is settled is what crosses
    pub settled_is_true : (m : ℕ) (d : Channel) (upto : Time) → d.source ≡ q →
        IsSettled (share_of job q) received (outgoing_on job m d) upto →
        (n : ℕ) → n < rank job.limit upto → n < end_rank (share_of job q) →
        in_order (sent_on (share_of job q) (events_by received) (outgoing_on job m d) n) ≡ in_order (crossing_by job d n)
    settled_is_true m d upto own settled n lt last =
        let may = all_may_come upto (incoming_from q 0 job.channels) in
        let all = deliveries_at job.limit (all_events (incoming_from q 0 job.channels) (and_further received (all_coming upto))) in
        let truly = sends_of_share job.limit job.flat job.outside (owned job q)
        (λ n. deliveries_at job.limit (all_events (incoming_from q 0 job.channels) (and_further received (all_coming upto))) n)
        (owned job d.target) n
        (λ j less. heard_crossings job q j (and_further received (all_coming upto)) (good.apart q) (good.heard q)
        (λ l c e here. in_order_same (owned job q) (deliveries_at job.limit (and_further received (all_coming upto) l) j)
        (crossing_by job c j)
        (comes_true upto l c j e (omega arith)))) in
        sym (settled (all_coming upto) may n lt last)
        ∙ ap (λ (p : ℕ). in_order (carried (links_between (owned job p) (owned job d.target) job.flat.links)
        (sent_of (numbers (share_of job q).flat.members)
        (emissions_at job.limit (network (share_of job q).flat)
        (fed job.outside (deliveries_at job.limit (all_events (incoming_from q 0 job.channels) (and_further received (all_coming upto)))))
        n))))
        own
        ∙ ap in_order truly
        ∙ ap (λ (p : ℕ). in_order (crossings job.limit job.flat job.outside (owned job p) (owned job d.target) n)) (sym own)
