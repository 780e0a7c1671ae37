-- What a process of a job has heard, where true windows join.
use Rattle.std.proofs.Common.{◌≡◌, inl, inr, ℕ, suc, ◌+◌, ◌<◌, ◌≤◌, Bool, true, false, not, ◌&&◌, ◌||◌, cond, nat_eq, List, []}
use Rattle.std.proofs.Common.{◌∷◌, ◌++◌, append-nil, IsFalse, IsTrue, Some, refl, sym, ap, ◌∙◌, subst, arith}
use Rattle.std.specs.List.{filter, slice_get}
use Rattle.std.proofs.lemmas.Bool.{cases_lt}
use Rattle.dv_time.specs.Time.{rank}
use Rattle.dv_time.specs.declared.time.Time.{Time}
use Rattle.dv_bag.specs.Bag.{Counts}
use Rattle.dv_devs.specs.Network.{emissions_at}
use Rattle.dv_conservative.specs.Events.{Event, deliveries_at, events_between, in_order}
use Rattle.dv_conservative.specs.Flat.{crossings, numbers, others, whole}
use Rattle.dv_conservative.specs.Links.{Delivery, Link, SameFor, carried, delivered, is_between, links_between, sent_of}
use Rattle.dv_conservative.specs.Process.{Packet, all_events, clock_after, events_in}
use Rattle.dv_conservative.specs.Sound.{AllHeard, AreApart, is_heard}
use Rattle.dv_conservative.specs.True.{AreTrue, IsTruePacket, crossing_by}
use Rattle.dv_conservative.specs.World.{Channel, Job, incoming_from, owned}
use Rattle.dv_conservative.proofs.Delivered.{AreParted, brings_parted, delivered-append}
use Rattle.dv_conservative.proofs.Local.{filter_none, same_number}
use Rattle.dv_conservative.proofs.Order.{in_order_delivers}
use Rattle.dv_conservative.proofs.Windows.{after_window, at_append, before_window, within_window}

-- what is so of each channel, by its number
abbrev pub AllOn : (ℕ → Channel → Type 0) → ℕ → List Channel → Type 0
AllOn P l [] = Unit {0}
AllOn P l (c ∷ cs) = P l c × AllOn P (suc l) cs

pub each : (P : ℕ → Channel → Type 0) (base : ℕ) (chs : List Channel) →
    ((i : ℕ) (c : Channel) → slice_get chs i ≡ Some c → P (base + i) c) →
    AllOn P base chs
each P base [] h = tt
each P base (c ∷ cs) h =
    let here : base + 0 ≡ base = omega arith in (
      subst (λ (n : ℕ). P n c) here (h 0 c refl),
      each P (suc base) cs (λ i d e.
          let later : base + suc i ≡ suc base + i = omega arith in
          subst (λ (n : ℕ). P n d) later (h (suc i) d e)),
    )

-- a link of the channels is of the first or of the others
both_ways : (s h w : Bool) → (IsTrue s → IsFalse h) → (((s || h) && w) ≡ ((s && w) || (h && w))) × (((s && w) && (h && w)) ≡ false)
both_ways true true w apart = absurd (cc (apart refl))
both_ways true false true apart = (refl, refl)
both_ways true false false apart = (refl, refl)
both_ways false true true apart = (refl, refl)
both_ways false true false apart = (refl, refl)
both_ways false false w apart = (refl, refl)

links_same : (f g : Link → Bool) (links : List Link) → ((l : Link) → f l ≡ g l) → filter f links ≡ filter g links
links_same f g [] h = refl
links_same f g (l ∷ ls) h =
    ap (λ (t : Bool). cond t (l ∷ filter f ls) (filter f ls)) (h l)
    ∙ ap (λ (xs : List Link). cond (g l) (l ∷ xs) xs) (links_same f g ls h)

module _ (job : Job) (q n : ℕ) (events : ℕ → List Event) where
  abbrev sent : ℕ → List Counts
  sent k = sent_of (numbers job.flat.members) (emissions_at job.limit (whole job.flat) job.outside n) k

  -- what was received on a link is what crosses
  abbrev pub HeardOn : ℕ → Channel → Type 0
  HeardOn l c = IsTrue (nat_eq c.target q) → SameFor (owned job q) (deliveries_at job.limit (events l) n) (crossing_by job c n)

  channels_parted : (k port : ℕ) (c : Channel) (cs : List Channel) (links : List Link) →
      ((k : ℕ) → IsTrue (owned job c.source k) → IsFalse (is_heard job q cs k))
      → AreParted k port (is_between (λ k. owned job c.source k || is_heard job q cs k) (owned job q))
      (is_between (owned job c.source) (owned job q)) (is_between (is_heard job q cs) (owned job q)) links
  channels_parted k port c cs [] apart = tt
  channels_parted k port c cs (l ∷ ls) apart = (
    (λ e. both_ways (owned job c.source l.from) (is_heard job q cs l.from) (owned job q l.to) (apart l.from)),
    channels_parted k port c cs ls apart,
  )

  channels_heard : (base : ℕ) (chs : List Channel) → AreApart job q chs → AllOn HeardOn base chs →
      SameFor (owned job q) (deliveries_at job.limit (all_events (incoming_from q base chs) events) n)
      (carried (links_between (is_heard job q chs) (owned job q) job.flat.links) sent)
  channels_heard base [] apart h k port bag here =
      sym (ap (λ (ls : List Link). delivered k port (carried ls sent) bag) (filter_none job.flat.links))
  channels_heard base (c ∷ cs) apart h k port bag here =
      by_target (channels_heard (suc base) cs apart.1 h.1 k port bag here) (nat_eq c.target q) refl
    where
      rest : List ℕ
      rest = incoming_from q (suc base) cs

      by_target : delivered k port (deliveries_at job.limit (all_events (incoming_from q (suc base) cs) events) n) bag
          ≡ delivered k port (carried (links_between (is_heard job q cs) (owned job q) job.flat.links) sent) bag
          → (t : Bool) → nat_eq c.target q ≡ t
          → delivered k port
          (deliveries_at job.limit
          (all_events (cond t (base ∷ incoming_from q (suc base) cs) (incoming_from q (suc base) cs)) events) n) bag
          ≡ delivered k port
          (carried (links_between (λ k. (t && owned job c.source k) || is_heard job q cs k) (owned job q) job.flat.links) sent) bag
      by_target later true e =
          let ours : SameFor (owned job q) (deliveries_at job.limit (events base) n) (crossing_by job c n) = h.0 e in
          let target : c.target ≡ q = same_number c.target q e in
          ap (λ (ds : List Delivery). delivered k port ds bag)
          (at_append job.limit (events base) (all_events (incoming_from q (suc base) cs) events) n)
          ∙ delivered-append k port (deliveries_at job.limit (events base) n)
          (deliveries_at job.limit (all_events (incoming_from q (suc base) cs) events) n) bag
          ∙ ap (delivered k port (deliveries_at job.limit (events base) n)) later
          ∙ ours k port (delivered k port (carried (links_between (is_heard job q cs) (owned job q) job.flat.links) sent) bag) here
          ∙ ap (λ (t : ℕ). delivered k port (carried (links_between (owned job c.source) (owned job t) job.flat.links) sent)
          (delivered k port (carried (links_between (is_heard job q cs) (owned job q) job.flat.links) sent) bag)) target
          ∙ sym (brings_parted k port sent (is_between (λ k. owned job c.source k || is_heard job q cs k) (owned job q))
          (is_between (owned job c.source) (owned job q)) (is_between (is_heard job q cs) (owned job q)) job.flat.links bag
          (channels_parted k port c cs job.flat.links (apart.0 e)))
      by_target later false e = later

-- the links by which a process hears from others are those that lead to it
all_others : (job : Job) (q : ℕ) (links : List Link) → AllHeard job q links →
    links_between (is_heard job q job.channels) (owned job q) links ≡ links_between (others (owned job q)) (owned job q) links
all_others job q [] h = refl
all_others job q (l ∷ ls) h =
    step (owned job q l.to) refl
    ∙ ap (λ (xs : List Link). cond (is_between (others (owned job q)) (owned job q) l) (l ∷ xs) xs) (all_others job q ls h.1)
  where
    rest : List Link
    rest = links_between (is_heard job q job.channels) (owned job q) ls

    nowhere : (s t : Bool) (a b : List Link) → cond (s && false) a b ≡ cond (not t && false) a b
    nowhere true true a b = refl
    nowhere true false a b = refl
    nowhere false true a b = refl
    nowhere false false a b = refl

    step : (t : Bool) → owned job q l.to ≡ t →
        links_between (is_heard job q job.channels) (owned job q) (l ∷ ls)
        ≡ cond (is_between (others (owned job q)) (owned job q) l)
        (l ∷ links_between (is_heard job q job.channels) (owned job q) ls) (links_between (is_heard job q job.channels) (owned job q) ls)
    step true e =
        ap (λ (s : Bool). cond (s && owned job q l.to) (l ∷ links_between (is_heard job q job.channels) (owned job q) ls)
        (links_between (is_heard job q job.channels) (owned job q) ls)) (h.0 e)
    step false e =
        rw e (nowhere (is_heard job q job.channels l.from) (owned job q l.from)
        (l ∷ links_between (is_heard job q job.channels) (owned job q) ls) (links_between (is_heard job q job.channels) (owned job q) ls))

-- all that crosses to a process, from what was received on each of its links
pub heard_crossings : (job : Job) (q n : ℕ) (events : ℕ → List Event) → AreApart job q job.channels → AllHeard job q job.flat.links →
    ((l : ℕ) (c : Channel) → slice_get job.channels l ≡ Some c → HeardOn job q n events l c)
    → SameFor (owned job q) (deliveries_at job.limit (all_events (incoming_from q 0 job.channels) events) n)
    (crossings job.limit job.flat job.outside (others (owned job q)) (owned job q) n)
heard_crossings job q n events apart heard h =
    let on : AllOn (HeardOn job q n events) 0 job.channels = each (HeardOn job q n events) 0 job.channels (λ i c e.
    let same : i ≡ 0 + i = omega arith in
    subst (λ (l : ℕ). HeardOn job q n events l c) same (h i c e)) in
    subst (λ (ls : List Link).
    SameFor (owned job q) (deliveries_at job.limit (all_events (incoming_from q 0 job.channels) events) n)
    (carried ls (sent_of (numbers job.flat.members) (emissions_at job.limit (whole job.flat) job.outside n))))
    (all_others job q job.flat.links heard) (channels_heard job q n events 0 job.channels apart on)

-- what true packets bring, rank by rank
module _ (job : Job) (l : ℕ) (c : Channel) where
  pub clocks_rise : (start : Time) (ps : List Packet) → AreTrue job l c start ps →
      rank job.limit start ≤ rank job.limit (clock_after start ps)
  clocks_rise start [] h = omega arith
  clocks_rise start (p ∷ ps) h =
      let truth : IsTruePacket job l c p = h.1 in
      let rest = clocks_rise p.upto ps h.2 in
      let first : rank job.limit p.from ≡ rank job.limit start = ap (rank job.limit) h.0 in
      omega (arith, truth.later)

  at_packet : (p : Packet) (n : ℕ) → IsTruePacket job l c p →
      deliveries_at job.limit p.events n
      ≡ deliveries_at job.limit (events_between job.limit (crossing_by job c) (rank job.limit p.from) (rank job.limit p.upto)) n
  at_packet p n truth = ap (λ (es : List Event). deliveries_at job.limit es n) truth.events

  pub true_before : (start : Time) (ps : List Packet) (n : ℕ) → AreTrue job l c start ps → n < rank job.limit start →
      deliveries_at job.limit (events_in ps) n ≡ []
  true_before start [] n h lt = refl
  true_before start (p ∷ ps) n h lt =
      let truth : IsTruePacket job l c p = h.1 in
      let first : rank job.limit p.from ≡ rank job.limit start = ap (rank job.limit) h.0 in
      at_append job.limit p.events (events_in ps) n
      ∙ ap (λ (ds : List Delivery). ds ++ deliveries_at job.limit (events_in ps) n)
      (at_packet p n truth
      ∙ before_window job.limit (crossing_by job c) (rank job.limit p.from) (rank job.limit p.upto) n (omega arith))
      ∙ true_before p.upto ps n h.2 (omega (arith, truth.later))

  pub true_after : (start : Time) (ps : List Packet) (n : ℕ) → AreTrue job l c start ps → rank job.limit (clock_after start ps) ≤ n →
      deliveries_at job.limit (events_in ps) n ≡ []
  true_after start [] n h le = refl
  true_after start (p ∷ ps) n h le =
      let truth : IsTruePacket job l c p = h.1 in
      let rise = clocks_rise p.upto ps h.2 in
      at_append job.limit p.events (events_in ps) n
      ∙ ap (λ (ds : List Delivery). ds ++ deliveries_at job.limit (events_in ps) n)
      (at_packet p n truth
      ∙ after_window job.limit (crossing_by job c) (rank job.limit p.from) (rank job.limit p.upto) n (omega (arith, truth.later))
      (omega arith))
      ∙ true_after p.upto ps n h.2 le

  pub true_within : (start : Time) (ps : List Packet) (n : ℕ) → AreTrue job l c start ps → rank job.limit start ≤ n →
      n < rank job.limit (clock_after start ps) → deliveries_at job.limit (events_in ps) n ≡ in_order (crossing_by job c n)
  true_within start [] n h le lt = absurd (omega arith)
  true_within start (p ∷ ps) n h le lt =
      let truth : IsTruePacket job l c p = h.1 in
      let first : rank job.limit p.from ≡ rank job.limit start = ap (rank job.limit) h.0 in
      at_append job.limit p.events (events_in ps) n
      ∙ elim (cases_lt n (rank job.limit p.upto)) [
        | inl within ↦
            ap (λ (ds : List Delivery). ds ++ deliveries_at job.limit (events_in ps) n)
            (at_packet p n truth
            ∙ within_window job.limit (crossing_by job c) (rank job.limit p.from) (rank job.limit p.upto) n (omega arith) within)
            ∙ ap (λ (ds : List Delivery). in_order (crossing_by job c n) ++ ds) (true_before p.upto ps n h.2 within)
            ∙ append-nil (in_order (crossing_by job c n))
        | inr later ↦
            ap (λ (ds : List Delivery). ds ++ deliveries_at job.limit (events_in ps) n)
            (at_packet p n truth
            ∙ after_window job.limit (crossing_by job c) (rank job.limit p.from) (rank job.limit p.upto) n
            (omega (arith, truth.later)) later)
            ∙ true_within p.upto ps n h.2 later lt
      ]

-- deliveries in order bring the same
pub in_order_same : (who : ℕ → Bool) (ds es : List Delivery) → ds ≡ in_order es → SameFor who ds es
in_order_same who ds es e k port bag here = ap (λ (xs : List Delivery). delivered k port xs bag) e ∙ in_order_delivers k port es bag
