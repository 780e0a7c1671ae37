-- The local run from one instant to the next.
use Rattle.std.proofs.Common.{◌≡◌, ℕ, zero, suc, ◌+◌, ◌-◌, ◌<◌, ◌≤◌, Bool, true, false, not, nat_eq, List, [], ◌∷◌, ◌++◌, map}
use Rattle.std.proofs.Common.{IsTrue, Option, Some, None, refl, ap, sym, ◌∙◌, subst, arith}
use Rattle.dv_time.specs.Time.{IsOfRun, rank, time_of}
use Rattle.dv_time.specs.declared.time.Time.{Time}
use Rattle.dv_time.proofs.Ranks.{time_of-rank}
use Rattle.dv_bag.specs.Bag.{Counts}
use Rattle.dv_bag.specs.Part.{PartOf, joined}
use Rattle.dv_bag.specs.declared.state.State.{State}
use Rattle.dv_devs.specs.Cuts.{IsAllBefore}
use Rattle.dv_devs.proofs.Cuts.{trace_is_before}
use Rattle.dv_devs.proofs.Stretches.{resting_components, resting_trace, rests_until_next}
use Rattle.dv_devs.specs.Behaviour.{Component, Reaction}
use Rattle.dv_devs.specs.Idle.{AllBringNothing, LeavesOnlyWhatIsSent, no_values, nothing_sent}
use Rattle.dv_devs.specs.Inputs.{ArriveAlike}
use Rattle.dv_devs.specs.Network.{Network, components_after, components_at, emissions, entries_by, outer_from, part_of_instant}
use Rattle.dv_devs.specs.Network.{reactions, trace_before}
use Rattle.dv_devs.specs.NextTimes.{IsFrom, IsReady, least_next}
use Rattle.dv_conservative.proofs.Bags.{nothing_leaves}
use Rattle.dv_conservative.proofs.Delivered.{delivered-append}
use Rattle.dv_conservative.proofs.Numbers.{is_ready}
use Rattle.dv_conservative.specs.Events.{Event, deliveries_at}
use Rattle.dv_conservative.specs.Flat.{Flat, Member, network, numbers, received}
use Rattle.dv_conservative.specs.Links.{Delivery, carried, delivered, inbox, sent_of}
use Rattle.dv_conservative.proofs.Later.{components_stay, part_stays}
use Rattle.dv_conservative.specs.Process.{Packet, Share, all_events, brings, components_by, events_by, inputs_by, least_clock}
use Rattle.dv_conservative.specs.Process.{part_by, refusal_of, with_packet}
use Rattle.std.specs.List.{list_any}
use Rattle.dv_proc.specs.Arriving.{AreApart}
use Rattle.dv_proc.proofs.Received.{deliver_with}
use Rattle.dv_conservative.specs.Sound.{IsSoundShare}
use Rattle.dv_proc.specs.Local.{DeliverAlike, IsAfterEvents, IsAfterInstant, IsLocalRun, View, brings_at, input_at}

-- inputs that arrive alike lead to the same
module _ {I : Type 0} (limit : ℕ) (net : Network I) (n : ℕ) (cs : List Component) (x y : I) (alike : ArriveAlike net x y) where
  pub after_alike : components_after limit net n x cs ≡ components_after limit net n y cs
  after_alike =
      ap (λ (received : List (List Counts)). map (λ (r : Reaction). r.component) (reactions limit net.behaviours n cs received))
      (alike (emissions net.behaviours n cs))

  pub part_alike : part_of_instant limit net n x cs ≡ part_of_instant limit net n y cs
  part_alike =
      ap (λ (received : List (List Counts)).
      let p : PartOf = record {
        entries = entries_by limit n net.numbers (reactions limit net.behaviours n cs received);
        outer = outer_from limit n 0 (net.leaves (emissions net.behaviours n cs));
      } in p)
      (alike (emissions net.behaviours n cs))

-- deliveries that nobody can tell apart arrive alike
inbox_alike : (k : ℕ) (ds es : List Delivery) (port n : ℕ)
    → ((port : ℕ) (bag : Counts) → delivered k port ds bag ≡ delivered k port es bag) →
    inbox k ds port n ≡ inbox k es port n
inbox_alike k ds es port zero h = refl
inbox_alike k ds es port (suc n) h =
    let here = h port [] in
    let rest = inbox_alike k ds es (port + 1) n h in cc

received_alike : (ms : List Member) (ds es : List Delivery) → DeliverAlike ds es → received ms ds ≡ received ms es
received_alike [] ds es h = refl
received_alike (m ∷ ms) ds es h =
    let here = inbox_alike m.number ds es 0 m.ports (h m.number) in
    let rest = received_alike ms ds es h in cc

behind : (xs ds es : List Delivery) → DeliverAlike ds es → DeliverAlike (xs ++ ds) (xs ++ es)
behind xs ds es h k port bag =
    delivered-append k port xs ds bag ∙ ap (delivered k port xs) (h k port bag) ∙ sym (delivered-append k port xs es bag)

pub arrive_alike : (f : Flat) (outside : List Counts) (ds es : List Delivery) → DeliverAlike ds es →
    ArriveAlike (network f) (outside, ds) (outside, es)
arrive_alike f outside ds es h sent =
    let links = carried f.links (sent_of (numbers f.members) sent) in
    let doors = carried f.entrances (λ k. outside) in
    received_alike f.members (doors ++ (links ++ ds)) (doors ++ (links ++ es))
    (behind doors (links ++ ds) (links ++ es) (behind links ds es h))

module _ (v : View) (events : ℕ → List Event) (k : ℕ) (run : IsLocalRun v events k) where
  pub inputs_alike : (n : ℕ) → k ≤ n → ArriveAlike (network v.share.flat) (input_at v n) (inputs_by v.share events n)
  inputs_alike n le =
      arrive_alike v.share.flat (v.share.outside n) (v.held n) (deliveries_at v.share.limit (all_events v.share.incoming events) n)
      (run.held n le)

  -- what is held brings what the events bring
  pub brings_alike : (n : ℕ) → k ≤ n → brings_at v n ≡ brings v.share events n
  brings_alike n le = ap (λ (received : List (List Counts)). not (no_values received))
      (inputs_alike n le (nothing_sent (network v.share.flat)))

  -- an instant later
  pub run_after : (w : View) → IsAfterInstant k v w → IsLocalRun w events (suc k)
  run_after w after = record {
    components = subst (λ (s : Share). w.components ≡ components_by s events (suc k)) (sym after.share)
        (after.components
        ∙ after_alike v.share.limit (network v.share.flat) k v.components (input_at v k) (inputs_by v.share events k)
        (inputs_alike k (omega arith))
        ∙ ap (components_after v.share.limit (network v.share.flat) k (inputs_by v.share events k)) run.components);
    committed = subst (λ (s : Share). w.committed ≡ part_by s events (suc k)) (sym after.share)
        (after.committed
        ∙ ap (joined v.committed)
        (part_alike v.share.limit (network v.share.flat) k v.components (input_at v k) (inputs_by v.share events k)
        (inputs_alike k (omega arith))
        ∙ ap (part_of_instant v.share.limit (network v.share.flat) k (inputs_by v.share events k)) run.components)
        ∙ ap (λ (p : PartOf). joined p
        (part_of_instant v.share.limit (network v.share.flat) k (inputs_by v.share events k) (components_by v.share events k)))
        run.committed);
    held = λ n later. subst (λ (s : Share). DeliverAlike (w.held n) (deliveries_at s.limit (all_events s.incoming events) n))
        (sym after.share)
        (subst (λ (ds : List Delivery). DeliverAlike ds (deliveries_at v.share.limit (all_events v.share.incoming events) n))
        (sym (after.held n (omega arith))) (run.held n (omega arith)));
  }

  -- later, where nothing is due between
  module _ (fits : ℕ → State → Bool) (sound : IsSoundShare fits v.share) (m : ℕ) (le : k ≤ m) (next : IsFrom m (least_next v.components))
      (none : (n : ℕ) → k ≤ n → n < m → brings_at v n ≡ false) where
    abbrev net : Network (List Counts × List Delivery)
    net = network v.share.flat

    ready : IsReady net
    ready = is_ready fits (λ k. v.share.response) v.share.flat sound.sound

    first : IsFrom m (least_next (components_at v.share.limit net (inputs_by v.share events) k))
    first = subst (λ (cs : List Component). IsFrom m (least_next cs)) run.components next

    nothing : (b : Bool) → not b ≡ false → b ≡ true
    nothing true h = refl
    nothing false h = absurd (cc)

    quiet : AllBringNothing net (inputs_by v.share events) k m
    quiet n low less = nothing _ (sym (brings_alike n low) ∙ none n low less)

    pub run_later : IsLocalRun v events m
    run_later = record {
      components = run.components
          ∙ sym (resting_components v.share.limit net (inputs_by v.share events) ready k m le
          (rests_until_next v.share.limit net (inputs_by v.share events) ready k m first quiet));
      committed = run.committed
          ∙ sym (resting_trace v.share.limit net (inputs_by v.share events) ready k (nothing_leaves v.share.flat) m le
          (rests_until_next v.share.limit net (inputs_by v.share events) ready k m first quiet));
      held = λ n later. run.held n (omega arith);
    }

-- with the events of a packet
pub run_received : (v w : View) (received : ℕ → List Packet) (p : Packet) (k : ℕ) → IsLocalRun v (events_by received) k →
    refusal_of v.share received p ≡ None → k ≤ least_clock v.share received → AreApart v.share.incoming →
    list_any (nat_eq p.link) v.share.incoming ≡ true → IsAfterEvents p.events v w → IsLocalRun w (events_by (with_packet received p)) k
run_received v w received p k run fine le apart some after = record {
  components = subst (λ (s : Share). w.components ≡ components_by s (events_by (with_packet received p)) k) (sym after.share)
      (after.components ∙ run.components ∙ sym (components_stay v.share received p k fine le));
  committed = subst (λ (s : Share). w.committed ≡ part_by s (events_by (with_packet received p)) k) (sym after.share)
      (after.committed ∙ run.committed ∙ sym (part_stays v.share received p k fine le));
  held = λ n later.
      subst (λ (s : Share). DeliverAlike (w.held n) (deliveries_at s.limit (all_events s.incoming (events_by (with_packet received p)))
      n)) (sym after.share)
      (λ c port bag.
      after.held n c port bag
      ∙ delivered-append c port (v.held n) (deliveries_at v.share.limit p.events n) bag
      ∙ run.held n later c port (delivered c port (deliveries_at v.share.limit p.events n) bag)
      ∙ sym (delivered-append c port (deliveries_at v.share.limit (all_events v.share.incoming (events_by received)) n)
      (deliveries_at v.share.limit p.events n) bag)
      ∙ sym (deliver_with v.share.limit received p n v.share.incoming apart some c port bag));
}

-- what a local run committed is before its time
pub run_before : (v : View) (events : ℕ → List Event) (t : Time) → IsOfRun v.share.limit t → IsLocalRun v events (rank v.share.limit t)
    → IsAllBefore t v.committed
run_before v events t of_run run =
    let limit = v.share.limit in
    subst (λ (u : Time). IsAllBefore u v.committed) (time_of-rank limit t of_run)
    (subst (λ (p : PartOf). IsAllBefore (time_of limit (rank limit t)) p) (sym run.committed)
    (trace_is_before limit (network v.share.flat) (inputs_by v.share events) (rank limit t)))
