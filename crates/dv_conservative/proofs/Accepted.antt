-- The packet at the front of a link is accepted by its receiver.
use Rattle.std.proofs.Common.{◌≡◌, ℕ, suc, zero, ◌+◌, ◌-◌, ◌<◌, ◌≤◌, Bool, true, false, ◌&&◌, ◌||◌, cond, nat_eq, nat_lt}
use Rattle.std.proofs.Common.{nat_le, List, [], ◌∷◌, ◌++◌, map, IsTrue, Some, None, refl, ap, subst, ◌∙◌, arith}
use Rattle.std.specs.List.{filter, list_all, list_any, slice_get}
use Rattle.std.specs.Ordering.{match_ordering}
use Rattle.std.specs.declared.cmp.Ordering.{Ordering}
use Rattle.std.specs.declared.cmp.Ordering.TheVariants.{Less, Equal, Greater}
use Rattle.std.proofs.lemmas.Bool.{and_parts}
use Rattle.std.proofs.lemmas.Bool.Decides.{nat_tests}
use Rattle.dv_time.specs.Time.{rank, time_of}
use Rattle.dv_time.specs.declared.time.Time.{Time}
use Rattle.dv_bag.specs.Bag.{Counts, bag_at, capped}
use Rattle.dv_bag.specs.declared.state.State.{State}
use Rattle.dv_devs.proofs.NextTimes.{rank_at_time, time_of_run}
use Rattle.dv_conservative.specs.Events.{AreInOrder, AreInOrderAfter, Event, delivery_cmp, event_of, events_from, in_order}
use Rattle.dv_conservative.specs.Events.{same_time, with_delivery}
use Rattle.dv_conservative.specs.Flat.{Member}
use Rattle.dv_conservative.specs.Links.{Delivery, Link, carried, carried_by, is_between, links_between}
use Rattle.dv_conservative.specs.Process.{Packet, Share, are_in_order, are_in_order_after, channel_clock, clock_after, end_rank}
use Rattle.dv_conservative.specs.Process.{first_time, is_event_of, is_port_of, is_window, refusal_of}
use Rattle.dv_conservative.specs.Sound.{AllLead, IsJob}
use Rattle.dv_conservative.specs.True.{AreTrue, IsTruePacket, crossing_by}
use Rattle.dv_conservative.specs.World.{Channel, Job, World, all_of, incoming_from, owned, packets_in, received_in, share_of}
use Rattle.dv_conservative.proofs.Holding.{Holds}
use Rattle.dv_conservative.proofs.Local.{same_number}
use Rattle.dv_conservative.proofs.Windows.{itself, window_in_order}

-- the next of true packets
next_true : (job : Job) (l : ℕ) (c : Channel) (start : Time) (ps : List Packet) (p : Packet) (qs : List Packet) →
    AreTrue job l c start (ps ++ p ∷ qs) → (p.from ≡ clock_after start ps) × IsTruePacket job l c p
next_true job l c start [] p qs h = (h.0, h.1)
next_true job l c start (q ∷ ps) p qs h = next_true job l c q.upto ps p qs h.2

-- a link that leads here is among those that do
or_right : (a b : Bool) → b ≡ true → (a || b) ≡ true
or_right true b h = refl
or_right false b h = h

any_incoming : (q base : ℕ) (chs : List Channel) (i : ℕ) (c : Channel) → slice_get chs i ≡ Some c → nat_eq c.target q ≡ true →
    list_any (nat_eq (base + i)) (incoming_from q base chs) ≡ true
any_incoming q base [] i c e here = absurd (cc)
any_incoming q base (d ∷ ds) zero c e here =
    let same : d ≡ c = cc in
    let target : nat_eq d.target q ≡ true = ap (λ (x : Channel). nat_eq x.target q) same ∙ here in
    let number : nat_eq (base + 0) base ≡ true = grind (arith, nat_tests) in
    rw (target, number) refl
any_incoming q base (d ∷ ds) (suc i) c e here =
    let number : suc base + i ≡ base + suc i = omega arith in
    by_test (nat_eq d.target q)
    (subst (λ (n : ℕ). list_any (nat_eq n) (incoming_from q (suc base) ds) ≡ true) number (any_incoming q (suc base) ds i c e here))
  where
    by_test : (t : Bool) → list_any (nat_eq (base + suc i)) (incoming_from q (suc base) ds) ≡ true →
        list_any (nat_eq (base + suc i)) (cond t (base ∷ incoming_from q (suc base) ds) (incoming_from q (suc base) ds)) ≡ true
    by_test true h = or_right (nat_eq (base + suc i) base) (list_any (nat_eq (base + suc i)) (incoming_from q (suc base) ds)) h
    by_test false h = h

-- events in order pass the test
order_test_after : (a : Event) (es : List Event) → AreInOrderAfter a es → are_in_order_after a es ≡ true
order_test_after a [] h = refl
order_test_after a (e ∷ es) h = rw h.0 (order_test_after e es h.1)

order_test : (es : List Event) → AreInOrder es → are_in_order es ≡ true
order_test [] h = refl
order_test (e ∷ es) h = order_test_after e es h

-- deliveries for ports that there are
abbrev OfPorts : List Member → List Delivery → Type 0
OfPorts ms [] = Unit {0}
OfPorts ms (d ∷ ds) = IsTrue (is_port_of ms d.component d.port) × OfPorts ms ds

ports_append : (ms : List Member) (ds es : List Delivery) → OfPorts ms ds → OfPorts ms es → OfPorts ms (ds ++ es)
ports_append ms [] es h k = k
ports_append ms (d ∷ ds) es h k = (h.0, ports_append ms ds es h.1 k)

ports_by : (ms : List Member) (l : Link) (b : Counts) → IsTrue (is_port_of ms l.to l.to_port) → OfPorts ms (carried_by l b)
ports_by ms l [] h = tt
ports_by ms l (p ∷ ps) h = (h, ports_by ms l ps h)

with_port : (ms : List Member) (d : Delivery) (es : List Delivery) → IsTrue (is_port_of ms d.component d.port) → OfPorts ms es →
    OfPorts ms (with_delivery d es)
with_port ms d [] h k = (h, tt)
with_port ms d (e ∷ es) h k = by_order (with_port ms d es h k.1) (delivery_cmp d e)
  where
    by_order : OfPorts ms (with_delivery d es) → (o : Ordering) → OfPorts ms (match_ordering o
        (record { component = d.component; port = d.port; value = d.value; copies = capped d.copies } ∷ e ∷ es)
        (record { component = e.component; port = e.port; value = e.value; copies = capped (d.copies + e.copies) } ∷ es)
        (e ∷ with_delivery d es))
    by_order rest Less = (h, k)
    by_order rest Equal = k
    by_order rest Greater = (k.0, rest)

ports_in_order : (ms : List Member) (ds : List Delivery) → OfPorts ms ds → OfPorts ms (in_order ds)
ports_in_order ms [] h = tt
ports_in_order ms (d ∷ ds) h = by_test (ports_in_order ms ds h.1) (nat_eq d.copies 0)
  where
    by_test : OfPorts ms (in_order ds) → (t : Bool) → OfPorts ms (cond t (in_order ds) (with_delivery d (in_order ds)))
    by_test rest true = rest
    by_test rest false = with_port ms d (in_order ds) h.0 rest

-- a port of a component of a set is one of its share
port_kept : (who : ℕ → Bool) (ms : List Member) (k port : ℕ) → is_port_of ms k port ≡ true → who k ≡ true →
    is_port_of (filter (λ (m : Member). who m.number) ms) k port ≡ true
port_kept who [] k port h here = h
port_kept who (m ∷ ms) k port h here =
    by_tests (λ rest. port_kept who ms k port rest here) (who m.number) (nat_eq m.number k && nat_lt port m.ports) refl refl h
  where
    by_tests : (is_port_of ms k port ≡ true → is_port_of (filter (λ (m : Member). who m.number) ms) k port ≡ true) → (t u : Bool) →
        who m.number ≡ t → (nat_eq m.number k && nat_lt port m.ports) ≡ u → (u || is_port_of ms k port) ≡ true
        → is_port_of (cond t (m ∷ filter (λ (m : Member). who m.number) ms) (filter (λ (m : Member). who m.number) ms)) k port ≡ true
    by_tests rest true true e d h = rw d refl
    by_tests rest true false e d h = or_right (nat_eq m.number k && nat_lt port m.ports) _ (rest h)
    by_tests rest false true e d h =
        let parts = and_parts (nat_eq m.number k) (nat_lt port m.ports) d in
        let same : m.number ≡ k = same_number m.number k parts.0 in
        absurd (cc (ap who same))
    by_tests rest false false e d h = rest h

-- what links carry to a set leads to ports of its share
ports_carried : (who to : ℕ → Bool) (all : List Member) (links : List Link) (sent : ℕ → List Counts) → AllLead all links →
    OfPorts (filter (λ (m : Member). to m.number) all) (carried (links_between who to links) sent)
ports_carried who to all [] sent h = tt
ports_carried who to all (l ∷ ls) sent h = by_test (ports_carried who to all ls sent h.1) (is_between who to l) refl
  where
    by_test : OfPorts (filter (λ (m : Member). to m.number) all) (carried (links_between who to ls) sent) → (t : Bool) →
        is_between who to l ≡ t →
        OfPorts (filter (λ (m : Member). to m.number) all) (carried (cond t (l ∷ links_between who to ls) (links_between who to ls)) sent)
    by_test rest true e =
        let parts = and_parts (who l.from) (to l.to) e in
        ports_append (filter (λ (m : Member). to m.number) all) (carried_by l (bag_at (sent l.from) l.from_port))
        (carried (links_between who to ls) sent)
        (ports_by (filter (λ (m : Member). to m.number) all) l (bag_at (sent l.from) l.from_port)
        (port_kept to all l.to l.to_port h.0 parts.1))
        rest
    by_test rest false e = rest

-- events within a window, for ports of a share
all_append : {X : Type 0} (test : X → Bool) (xs ys : List X) → list_all test xs ≡ true → list_all test ys ≡ true →
    list_all test (xs ++ ys) ≡ true
all_append test [] ys h k = k
all_append test (x ∷ xs) ys h k =
    let parts = and_parts (test x) (list_all test xs) h in
    rw (parts.0, all_append test xs ys parts.1 k) refl

module _ (s : Share) (p : Packet) where
  event_within : (n : ℕ) (d : Delivery) → rank s.limit p.from ≤ n → n < rank s.limit p.upto →
      IsTrue (is_port_of s.flat.members d.component d.port) →
      is_event_of s p (event_of (time_of s.limit n) d) ≡ true
  event_within n d le lt port =
      let micro : nat_le (time_of s.limit n).micro s.limit ≡ true = grind (arith, nat_tests, time_of_run s.limit n) in
      let low : nat_le (rank s.limit p.from) (rank s.limit (time_of s.limit n)) ≡ true = grind (arith, nat_tests, rank_at_time s.limit n) in
      let high : nat_lt (rank s.limit (time_of s.limit n)) (rank s.limit p.upto) ≡ true =
      grind (arith, nat_tests, rank_at_time s.limit n) in
      rw (micro, low, high) port

  rank_within : (n : ℕ) (ds : List Delivery) → rank s.limit p.from ≤ n → n < rank s.limit p.upto → OfPorts s.flat.members ds →
      list_all (is_event_of s p) (map (event_of (time_of s.limit n)) ds) ≡ true
  rank_within n [] le lt h = refl
  rank_within n (d ∷ ds) le lt h = rw (event_within n d le lt h.0, rank_within n ds le lt h.1) refl

  window_within : (stream : ℕ → List Delivery) (start count : ℕ) → rank s.limit p.from ≤ start → start + count ≤ rank s.limit p.upto →
      ((n : ℕ) → OfPorts s.flat.members (stream n)) → list_all (is_event_of s p) (events_from s.limit stream start count) ≡ true
  window_within stream start zero le past ports = refl
  window_within stream start (suc count) le past ports =
      all_append (is_event_of s p) (map (event_of (time_of s.limit start)) (in_order (stream start)))
      (events_from s.limit stream (start + 1) count)
      (rank_within start (in_order (stream start)) le (omega arith) (ports_in_order s.flat.members (stream start) (ports start)))
      (window_within stream (start + 1) count (omega arith) (omega arith) ports)

time_itself : (t : Time) → same_time t t ≡ true
time_itself t = rw (itself t.tick, itself t.micro) refl

module _ (fits : ℕ → State → Bool) (job : Job) (good : IsJob fits job) (w : World) (holds : Holds fits job good w) where
  pub accepted : (l : ℕ) (c : Channel) (p : Packet) (rest : List Packet) → slice_get job.channels l ≡ Some c →
      (w.link l).queued ≡ p ∷ rest →
      refusal_of (share_of job c.target) (received_in w) p ≡ None
  accepted l c p rest e queue =
      let x = w.link l in
      let s = share_of job c.target in
      let all : all_of x ≡ x.received ++ (p ∷ (rest ++ packets_in x.standing))
      = ap (λ (qs : List Packet). x.received ++ (qs ++ packets_in x.standing)) queue in
      let next = next_true job l c first_time x.received p (rest ++ packets_in x.standing)
      (subst (AreTrue job l c first_time) all (holds.truth l c e)) in
      let truth : IsTruePacket job l c p = next.1 in
      let number : 0 + l ≡ p.link = omega (arith, truth.link) in
      let known : list_any (nat_eq p.link) s.incoming ≡ true
      = subst (λ (n : ℕ). list_any (nat_eq n) s.incoming ≡ true) number (any_incoming c.target 0 job.channels l c e (itself c.target)) in
      let first : same_time p.from (channel_clock (received_in w p.link)) ≡ true
      = ap (λ (t : Time). same_time t (channel_clock (received_in w p.link))) next.0
      ∙ ap (λ (n : ℕ). same_time (clock_after first_time x.received) (channel_clock (received_in w n))) truth.link
      ∙ time_itself (clock_after first_time x.received) in
      let later : nat_lt (rank s.limit p.from) (rank s.limit p.upto) ≡ true = grind (arith, nat_tests, truth.later) in
      let last : nat_le (rank s.limit p.upto) (end_rank s) ≡ true = grind (arith, nat_tests, truth.within.1) in
      let micro : nat_le p.upto.micro s.limit ≡ true = grind (arith, nat_tests, truth.within.0) in
      let window : is_window s p ≡ true = rw (later, last, micro) refl in
      let from = rank job.limit p.from in
      let count = rank job.limit p.upto - rank job.limit p.from in
      let order : are_in_order p.events ≡ true
      = ap are_in_order truth.events
      ∙ order_test (events_from job.limit (crossing_by job c) from count)
      (window_in_order job.limit (crossing_by job c) from count) in
      let events : list_all (is_event_of s p) p.events ≡ true
      = ap (list_all (is_event_of s p)) truth.events
      ∙ window_within s p (crossing_by job c) from count (omega arith) (omega (arith, truth.later))
      (λ n. ports_carried (owned job c.source) (owned job c.target) job.flat.members job.flat.links _ good.lead) in
      rw (known, first, window, order, events) refl
