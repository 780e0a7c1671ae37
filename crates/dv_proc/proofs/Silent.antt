-- Before its promise a local run sends nothing beyond the instant at which it stands.
use Rattle.std.proofs.Common.{◌≡◌, inl, inr, ℕ, zero, suc, ◌+◌, ◌-◌, ◌<◌, ◌≤◌, min, Bool, true, false, not, cond, nat_eq, List}
use Rattle.std.proofs.Common.{[], ◌∷◌, ◌++◌, map, IsTrue, Option, Some, None, refl, ap, sym, ◌∙◌, subst, arith}
use Rattle.dv_time.specs.Time.{earlier, rank}
use Rattle.dv_bag.specs.Bag.{Counts, bag_at}
use Rattle.dv_bag.specs.declared.state.State.{State}
use Rattle.dv_devs.specs.Behaviour.{Behaviour, Component, is_at}
use Rattle.dv_devs.specs.Idle.{nothing_sent}
use Rattle.dv_devs.specs.Network.{components_at, emissions_at}
use Rattle.dv_devs.specs.NextTimes.{IsFrom, least_next}
use Rattle.dv_conservative.proofs.Numbers.{all_keep, all_respond, is_ready, numbers_at, numbers_come, states_stay}
use Rattle.dv_conservative.proofs.Settled.{first_not_before, none_before_first, received_numbers}
use Rattle.dv_conservative.proofs.Silence.{sends_nothing_at}
use Rattle.dv_conservative.specs.Events.{Event, deliveries_at, in_order}
use Rattle.dv_conservative.specs.Flat.{network, numbers}
use Rattle.dv_conservative.specs.Links.{Delivery, Link, carried, carried_by, sent_of}
use Rattle.dv_conservative.specs.Process.{Outgoing, Packet, Share, all_events, at_most, brings, components_by, end_rank}
use Rattle.dv_conservative.specs.Process.{events_by, inputs_by, known_until, least_clock, promise, sent_on}
use Rattle.dv_conservative.specs.Promise.{IsWaiting, foreseen, reach}
use Rattle.dv_conservative.specs.Sound.{AllReceivedNumbers, IsSoundShare, are_of_numbers, by_index}

-- where nobody sends, links carry nothing
sent_none : (js : List ℕ) (bs : List Behaviour) (k : ℕ) → sent_of js (map (λ (b : Behaviour). []) bs) k ≡ []
sent_none [] bs k = refl
sent_none (j ∷ js) [] k = by_test (nat_eq j k) (sent_none js [] k)
  where
    by_test : (t : Bool) → sent_of js [] k ≡ [] → cond t [] (sent_of js [] k) ≡ []
    by_test true h = refl
    by_test false h = h
sent_none (j ∷ js) (b ∷ bs) k = by_test (nat_eq j k) (sent_none js bs k)
  where
    by_test : (t : Bool) → sent_of js (map (λ (b : Behaviour). []) bs) k ≡ [] → cond t [] (sent_of js (map (λ (b : Behaviour). []) bs) k)
        ≡ []
    by_test true h = refl
    by_test false h = h

pub nothing_carried : (links : List Link) (sent : ℕ → List Counts) → ((k : ℕ) → sent k ≡ []) → carried links sent ≡ []
nothing_carried [] sent h = refl
nothing_carried (l ∷ ls) sent h =
    ap (λ (bags : List Counts). carried_by l (bag_at bags l.from_port) ++ carried ls sent) (h l.from) ∙ nothing_carried ls sent h

pub nothing_away : (s : Share) (events : ℕ → List Event) (out : Outgoing) (n : ℕ) →
    emissions_at s.limit (network s.flat) (inputs_by s events) n ≡ nothing_sent (network s.flat) → in_order (sent_on s events out n) ≡ []
nothing_away s events out n h =
    ap in_order
    (ap (λ (sent : List (List Counts)). carried out.links (sent_of (numbers s.flat.members) sent)) h
    ∙ nothing_carried out.links (sent_of (numbers s.flat.members) (nothing_sent (network s.flat)))
    (sent_none (numbers s.flat.members) (network s.flat).behaviours))

not_false : (b : Bool) → not b ≡ false → b ≡ true
not_false true h = refl
not_false false h = absurd (cc)

below_most : (bound m : ℕ) (next : Option ℕ) → m ≤ at_most bound next → IsFrom m next
below_most bound m None h = tt
below_most bound m (Some n) h = omega arith

module _ (fits : ℕ → State → Bool) (s : Share) (received : ℕ → List Packet) (sound : IsSoundShare fits s)
    (ours : AllReceivedNumbers received s.incoming) (k : ℕ) where
  abbrev until : ℕ
  until = known_until s received k

  waits : IsWaiting (by_index fits s.flat.members) are_of_numbers s.response s.limit (network s.flat) (inputs_by s (events_by received)) k
      until
  waits = record {
    ready = is_ready fits (λ k. s.response) s.flat sound.sound;
    keep = all_keep fits (λ k. s.response) s.flat.members sound.sound;
    respond = all_respond fits s.response s.flat.members sound.sound;
    fit = states_stay fits (λ k. s.response) s.limit s.flat sound.sound (inputs_by s (events_by received)) sound.outside
        (λ n. numbers_at s.limit (all_events s.incoming (events_by received)) n (received_numbers s.limit received s.incoming ours)) k;
    order = first_not_before (brings s (events_by received)) k (least_clock s received - k);
    silent = λ j le lt. not_false _ (none_before_first (brings s (events_by received)) k (least_clock s received - k) j le lt);
    comes_later = λ j le. numbers_come s.flat (s.outside j) (deliveries_at s.limit (all_events s.incoming (events_by received)) j)
        (sound.outside j)
        (numbers_at s.limit (all_events s.incoming (events_by received)) j (received_numbers s.limit received s.incoming ours));
  }

  abbrev cs : List Component
  cs = components_at s.limit (network s.flat) (inputs_by s (events_by received)) k

  pub silent_after : (out : Outgoing) (n : ℕ) → k < n → n < promise s received k → in_order (sent_on s (events_by received) out n) ≡ []
  silent_after out n later before = by_test (is_at k (least_next cs)) before
    where
      by_test : (t : Bool) →
          n < at_most (end_rank s) (cond t (Some (suc k)) (earlier (least_next cs) (reach s.limit until s.response)))
          → in_order (sent_on s (events_by received) out n) ≡ []
      by_test true lt = absurd (omega arith)
      by_test false lt =
          nothing_away s (events_by received) out n
          (sends_nothing_at (by_index fits s.flat.members) are_of_numbers s.response s.limit (network s.flat)
          (inputs_by s (events_by received))
          k until (suc n) waits
          (below_most (end_rank s) (suc n) (earlier (least_next cs) (reach s.limit until s.response)) (omega arith)) n (omega arith)
          (omega arith))
