-- An accepted packet changes nothing before the least channel clock.
use Rattle.std.proofs.Common.{◌≡◌, inl, inr, ℕ, suc, zero, ◌+◌, ◌-◌, ◌<◌, ◌≤◌, Bool, true, false, not, ◌&&◌, cond, nat_eq}
use Rattle.std.proofs.Common.{nat_le, nat_lt, List, [], ◌∷◌, ◌++◌, append-nil, append_assoc, Some, None, refl, sym, ap, ◌∙◌}
use Rattle.std.proofs.Common.{arith}
use Rattle.std.specs.List.{list_all, list_any}
use Rattle.std.proofs.lemmas.Bool.{and_parts, cases_lt}
use Rattle.std.proofs.lemmas.Bool.Decides.{nat_tests}
use Rattle.dv_time.specs.Time.{rank, time_of}
use Rattle.dv_bag.specs.Bag.{Counts}
use Rattle.dv_devs.specs.Inputs.{ArriveAlike}
use Rattle.dv_devs.proofs.NextTimes.{rank_at_time}
use Rattle.dv_devs.proofs.Runs.{components_agree, emissions_agree, traces_agree}
use Rattle.dv_conservative.specs.Events.{Event, deliveries_at, delivery_of, same_time}
use Rattle.dv_conservative.specs.Flat.{network, numbers}
use Rattle.dv_conservative.specs.Links.{Delivery, carried, sent_of}
use Rattle.dv_conservative.specs.Process.{Outgoing, P1, P2, P3, P4, Packet, Share, all_events, are_in_order, brings}
use Rattle.dv_conservative.specs.Process.{channel_clock, components_by, end_rank, events_by, events_in, first_from, inputs_by}
use Rattle.dv_conservative.specs.Process.{is_event_of, is_port_of, is_window, known_until, least_clock, least_of, part_by}
use Rattle.dv_conservative.specs.Process.{refusal_of, sent_on, with_packet}
use Rattle.dv_conservative.proofs.Local.{same_number}
use Rattle.dv_conservative.proofs.Settled.{first_not_before, first_not_past, none_before_first}
use Rattle.dv_conservative.proofs.Told.{same_times}
use Rattle.dv_conservative.proofs.Windows.{at_append}

-- what a packet that is accepted passed
by_tests : (a b c d : Bool) →
    cond (not a) (Some P1) (cond (not b) (Some P2) (cond (not c) (Some P4) (cond (not d) (Some P3) None))) ≡ None →
    (b ≡ true) × (c ≡ true) × (d ≡ true)
by_tests true true true true h = (refl, refl, refl)
by_tests false b c d h = absurd (cc)
by_tests true false c d h = absurd (cc)
by_tests true true false d h = absurd (cc)
by_tests true true true false h = absurd (cc)

module _ (s : Share) (received : ℕ → List Packet) (p : Packet) (fine : refusal_of s received p ≡ None) where
  passed : (same_time p.from (channel_clock (received p.link)) ≡ true) × (is_window s p ≡ true)
      × ((are_in_order p.events && list_all (is_event_of s p) p.events) ≡ true)
  passed =
      by_tests (list_any (nat_eq p.link) s.incoming) (same_time p.from (channel_clock (received p.link))) (is_window s p)
      (are_in_order p.events && list_all (is_event_of s p) p.events) fine

  pub first : p.from ≡ channel_clock (received p.link)
  first = same_times p.from (channel_clock (received p.link)) passed.0

  pub window_of : rank s.limit p.from < rank s.limit p.upto
  window_of =
      let parts = and_parts (nat_lt (rank s.limit p.from) (rank s.limit p.upto))
      (nat_le (rank s.limit p.upto) (end_rank s) && nat_le p.upto.micro s.limit) passed.1 in
      grind (arith, nat_tests, parts.0)

  none_of : (es : List Event) (n : ℕ) → list_all (is_event_of s p) es ≡ true → n < rank s.limit p.from → deliveries_at s.limit es n ≡ []
  none_of [] n h lt = refl
  none_of (e ∷ es) n h lt =
      let parts = and_parts (is_event_of s p e) (list_all (is_event_of s p) es) h in
      let micro = and_parts (nat_le e.time.micro s.limit)
      (nat_le (rank s.limit p.from) (rank s.limit e.time)
      && (nat_lt (rank s.limit e.time) (rank s.limit p.upto)
      && is_port_of s.flat.members e.component e.port)) parts.0 in
      let low = and_parts (nat_le (rank s.limit p.from) (rank s.limit e.time))
      (nat_lt (rank s.limit e.time) (rank s.limit p.upto)
      && is_port_of s.flat.members e.component e.port) micro.1 in
      let le : rank s.limit p.from ≤ rank s.limit e.time = grind (arith, nat_tests, low.0) in
      by_time (same_time e.time (time_of s.limit n)) refl le (none_of es n parts.1 lt)
    where
      by_time : (t : Bool) → same_time e.time (time_of s.limit n) ≡ t → rank s.limit p.from ≤ rank s.limit e.time →
          deliveries_at s.limit es n ≡ [] →
          cond t (delivery_of e ∷ deliveries_at s.limit es n) (deliveries_at s.limit es n) ≡ []
      by_time true same le rest =
          let number : rank s.limit e.time ≡ n = ap (rank s.limit) (same_times e.time (time_of s.limit n) same) ∙ rank_at_time s.limit n in
          absurd (omega arith)
      by_time false same le rest = rest

  packet_later : (n : ℕ) → n < rank s.limit p.from → deliveries_at s.limit p.events n ≡ []
  packet_later n lt =
      let parts = and_parts (are_in_order p.events) (list_all (is_event_of s p) p.events) passed.2 in none_of p.events n parts.1 lt

  -- on one link
  pub events_last : (ps : List Packet) → events_in (ps ++ p ∷ []) ≡ events_in ps ++ p.events
  events_last [] = append-nil p.events
  events_last (q ∷ ps) =
      ap (λ (es : List Event). q.events ++ es) (events_last ps)
      ∙ sym (append_assoc q.events (events_in ps) p.events)

  on_link : (l n : ℕ) → n < rank s.limit (channel_clock (received l)) →
      deliveries_at s.limit (events_by (with_packet received p) l) n ≡ deliveries_at s.limit (events_by received l) n
  on_link l n lt = by_number (nat_eq l p.link) refl
    where
      by_number : (t : Bool) → nat_eq l p.link ≡ t →
          deliveries_at s.limit (events_in (cond t (received l ++ p ∷ []) (received l))) n
          ≡ deliveries_at s.limit (events_in (received l)) n
      by_number true e =
          let same : l ≡ p.link = same_number l p.link e in
          let from : rank s.limit p.from ≡ rank s.limit (channel_clock (received l))
          = ap (rank s.limit) first ∙ ap (λ (i : ℕ). rank s.limit (channel_clock (received i))) (sym same) in
          ap (λ (es : List Event). deliveries_at s.limit es n) (events_last (received l))
          ∙ at_append s.limit (events_in (received l)) p.events n
          ∙ ap (λ (ds : List Delivery). deliveries_at s.limit (events_in (received l)) n ++ ds) (packet_later n (omega arith))
          ∙ append-nil (deliveries_at s.limit (events_in (received l)) n)
      by_number false e = refl

  on_links : (bound n : ℕ) (ls : List ℕ) → n < least_of s.limit bound ls received →
      deliveries_at s.limit (all_events ls (events_by (with_packet received p))) n
      ≡ deliveries_at s.limit (all_events ls (events_by received)) n
  on_links bound n [] lt = refl
  on_links bound n (l ∷ ls) lt =
      at_append s.limit (events_by (with_packet received p) l) (all_events ls (events_by (with_packet received p))) n
      ∙ ap (λ (ds : List Delivery). ds ++ deliveries_at s.limit (all_events ls (events_by (with_packet received p))) n)
      (on_link l n (omega arith))
      ∙ ap (λ (ds : List Delivery). deliveries_at s.limit (events_by received l) n ++ ds) (on_links bound n ls (omega arith))
      ∙ sym (at_append s.limit (events_by received l) (all_events ls (events_by received)) n)

  alike : (n : ℕ) → n ≤ least_clock s received → (j : ℕ) → j < n →
      ArriveAlike (network s.flat) (inputs_by s (events_by (with_packet received p)) j) (inputs_by s (events_by received) j)
  alike n le j lt sent =
      ap (λ (ds : List Delivery). (network s.flat).arrives sent (s.outside j, ds)) (on_links (end_rank s) j s.incoming (omega arith))

pub components_stay : (s : Share) (received : ℕ → List Packet) (p : Packet) (n : ℕ) → refusal_of s received p ≡ None →
    n ≤ least_clock s received →
    components_by s (events_by (with_packet received p)) n ≡ components_by s (events_by received) n
components_stay s received p n fine le =
    components_agree s.limit (network s.flat) (inputs_by s (events_by (with_packet received p))) (inputs_by s (events_by received)) n
    (alike s received p fine n le)

pub part_stays : (s : Share) (received : ℕ → List Packet) (p : Packet) (n : ℕ) → refusal_of s received p ≡ None →
    n ≤ least_clock s received →
    part_by s (events_by (with_packet received p)) n ≡ part_by s (events_by received) n
part_stays s received p n fine le =
    traces_agree s.limit (network s.flat) (inputs_by s (events_by (with_packet received p))) (inputs_by s (events_by received)) n
    (alike s received p fine n le)

pub sent_stays : (s : Share) (received : ℕ → List Packet) (p : Packet) (out : Outgoing) (n : ℕ) → refusal_of s received p ≡ None →
    n ≤ least_clock s received → sent_on s (events_by (with_packet received p)) out n ≡ sent_on s (events_by received) out n
sent_stays s received p out n fine le =
    ap (λ (sent : List (List Counts)). carried out.links (sent_of (numbers s.flat.members) sent))
    (emissions_agree s.limit (network s.flat) (inputs_by s (events_by (with_packet received p))) (inputs_by s (events_by received)) n
    (alike s received p fine n le))

-- the first rank that passes a test
first_passes : (test : ℕ → Bool) (n count : ℕ) → first_from test n count < n + count → test (first_from test n count) ≡ true
first_passes test n zero lt = absurd (omega arith)
first_passes test n (suc count) lt = by_test (first_passes test (n + 1) count) (test n) refl lt
  where
    by_test : (first_from test (n + 1) count < n + 1 + count → test (first_from test (n + 1) count) ≡ true) → (t : Bool) → test n ≡ t →
        cond t n (first_from test (n + 1) count) < n + suc count → test (cond t n (first_from test (n + 1) count)) ≡ true
    by_test rest true e lt = e
    by_test rest false e lt = rest (omega arith)

pub known_at : (s : Share) (received : ℕ → List Packet) (k n : ℕ) → k ≤ n → n ≤ least_clock s received →
    ((j : ℕ) → k ≤ j → j < n → brings s (events_by received) j ≡ false) →
    (brings s (events_by received) n ≡ false → n ≡ least_clock s received) → known_until s received k ≡ n
known_at s received k n le last none some =
    let test = brings s (events_by received) in
    let count = least_clock s received - k in
    let found = known_until s received k in
    elim (cases_lt found n) [
      | inl before ↦
          let passes : test found ≡ true = first_passes test k count (omega arith) in
          let fails : test found ≡ false = none found (first_not_before test k count) before in
          absurd (cc)
      | inr after ↦ elim (cases_lt n found) [
        | inl past ↦
            let fails : test n ≡ false = none_before_first test k count n le past in
            let same = some fails in
            absurd (omega (arith, first_not_past test k count))
        | inr same ↦ omega arith
      ]
    ]
