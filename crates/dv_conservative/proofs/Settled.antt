-- A promise is settled, and what is settled is true.
use Rattle.std.proofs.Common.{◌≡◌, inl, inr, ℕ, suc, zero, ◌+◌, ◌-◌, ◌<◌, ◌≤◌, min, Bool, true, false, not, ◌&&◌, cond, nat_eq}
use Rattle.std.proofs.Common.{List, [], ◌∷◌, ◌++◌, append-nil, Option, Some, None, refl, sym, ap, ◌∙◌, subst, arith}
use Rattle.std.proofs.lemmas.Bool.{cases_lt}
use Rattle.dv_time.specs.Time.{rank, time_of}
use Rattle.dv_time.specs.declared.time.Time.{Time}
use Rattle.dv_bag.specs.Bag.{Counts}
use Rattle.dv_bag.specs.declared.state.State.{State}
use Rattle.dv_devs.specs.Inputs.{ArriveAlike}
use Rattle.dv_devs.specs.Network.{components_at}
use Rattle.dv_devs.specs.NextTimes.{IsFrom}
use Rattle.dv_conservative.specs.Events.{Event, deliveries_at, delivery_of, in_order, same_time}
use Rattle.dv_conservative.specs.Flat.{network, numbers}
use Rattle.dv_conservative.specs.Links.{Delivery, carried, sent_of}
use Rattle.dv_conservative.specs.Process.{AllMayCome, IsSettled, MayCome, Outgoing, Packet, Share, all_events, and_further}
use Rattle.dv_conservative.specs.Process.{at_most, brings, channel_clock, end_rank, events_by, first_from, inputs_by}
use Rattle.dv_conservative.specs.Process.{known_until, least_clock, least_of, promise}
use Rattle.dv_conservative.specs.Promise.{BringsOnly, IsWaiting, foreseen}
use Rattle.dv_conservative.specs.Sound.{AllNumbers, AllReceivedNumbers, IsSoundShare, are_of_numbers, by_index}
use Rattle.dv_conservative.proofs.Numbers.{all_keep, all_respond, is_ready, numbers_at, numbers_come, states_stay}
use Rattle.dv_conservative.proofs.Silence.{decided_at, foreseen_later}
use Rattle.dv_conservative.proofs.Windows.{at_append, same_number}
use Rattle.dv_devs.proofs.NextTimes.{rank_at_time}

-- the first rank that passes a test
module _ (test : ℕ → Bool) where
  pub first_not_before : (n count : ℕ) → n ≤ first_from test n count
  first_not_before n zero = omega arith
  first_not_before n (suc count) = by_test (test n) (first_not_before (n + 1) count)
    where
      by_test : (t : Bool) → n + 1 ≤ first_from test (n + 1) count → n ≤ cond t n (first_from test (n + 1) count)
      by_test true h = omega arith
      by_test false h = omega arith

  pub first_not_past : (n count : ℕ) → first_from test n count ≤ n + count
  first_not_past n zero = omega arith
  first_not_past n (suc count) = by_test (test n) (first_not_past (n + 1) count)
    where
      by_test : (t : Bool) → first_from test (n + 1) count ≤ n + 1 + count → cond t n (first_from test (n + 1) count) ≤ n + suc count
      by_test true h = omega arith
      by_test false h = omega arith

  pub none_before_first : (n count j : ℕ) → n ≤ j → j < first_from test n count → test j ≡ false
  none_before_first n zero j le lt = absurd (omega arith)
  none_before_first n (suc count) j le lt = by_test (λ later less. none_before_first (n + 1) count j later less) (test n) refl lt
    where
      by_test : (n + 1 ≤ j → j < first_from test (n + 1) count → test j ≡ false) → (t : Bool) → test n ≡ t →
          j < cond t n (first_from test (n + 1) count) → test j ≡ false
      by_test rest true e lt = absurd (omega arith)
      by_test rest false e lt = elim (cases_lt n j) [
        | inl later ↦ rest (omega arith) lt
        | inr same ↦ let here : n ≡ j = omega arith in subst (λ (i : ℕ). test i ≡ false) here e
      ]

-- no channel clock is before the least
least_bound : (limit bound : ℕ) (ls : List ℕ) (received : ℕ → List Packet) → least_of limit bound ls received ≤ bound
least_bound limit bound [] received = omega arith
least_bound limit bound (l ∷ ls) received = omega (arith, least_bound limit bound ls received)

pub least_within : (s : Share) (received : ℕ → List Packet) → least_clock s received ≤ end_rank s
least_within s received = least_bound s.limit (end_rank s) s.incoming received

-- further events come at no rank before the channel clock
none_earlier : (limit : ℕ) (t : Time) (es : List Event) (n : ℕ) → MayCome limit t es → n < rank limit t → deliveries_at limit es n ≡ []
none_earlier limit t [] n h lt = refl
none_earlier limit t (e ∷ es) n h lt = by_test (same_time e.time (time_of limit n)) refl (none_earlier limit t es n h.3 lt)
  where
    by_test : (b : Bool) → same_time e.time (time_of limit n) ≡ b → deliveries_at limit es n ≡ [] →
        cond b (delivery_of e ∷ deliveries_at limit es n) (deliveries_at limit es n) ≡ []
    by_test true same rest = absurd (omega (arith, h.0, same_rank same))
      where
        same_rank : same_time e.time (time_of limit n) ≡ true → rank limit e.time ≡ n
        same_rank same = ap (rank limit) (same_times e.time (time_of limit n) same) ∙ rank_at_time limit n
          where
            same_times : (t u : Time) → same_time t u ≡ true → t ≡ u
            same_times t u h = by_parts (nat_eq t.tick u.tick) (nat_eq t.micro u.micro) refl refl h
              where
                by_parts : (a b : Bool) → nat_eq t.tick u.tick ≡ a → nat_eq t.micro u.micro ≡ b → (a && b) ≡ true → t ≡ u
                by_parts true true e d h =
                    ap (λ (n : ℕ). let v : Time = record { tick = n; micro = t.micro } in v) (same_number t.tick u.tick e)
                    ∙ ap (λ (n : ℕ). let v : Time = record { tick = u.tick; micro = n } in v) (same_number t.micro u.micro d)
                by_parts true false e d h = absurd (cc)
                by_parts false b e d h = absurd (cc)
    by_test false same rest = rest

numbers_of_further : (limit : ℕ) (t : Time) (es : List Event) → MayCome limit t es → AllNumbers es
numbers_of_further limit t [] h = tt
numbers_of_further limit t (e ∷ es) h = (h.1, numbers_of_further limit t es h.3)

pub events_append : (es fs : List Event) → AllNumbers es → AllNumbers fs → AllNumbers (es ++ fs)
events_append [] fs h k = k
events_append (e ∷ es) fs h k = (h.0, events_append es fs h.1 k)

module _ (limit : ℕ) (received : ℕ → List Packet) where
  pub received_numbers : (ls : List ℕ) → AllReceivedNumbers received ls → AllNumbers (all_events ls (events_by received))
  received_numbers [] h = tt
  received_numbers (l ∷ ls) h = events_append (events_by received l) (all_events ls (events_by received)) h.0 (received_numbers ls h.1)

  further_numbers : (ls : List ℕ) (further : ℕ → List Event) → AllReceivedNumbers received ls → AllMayCome limit received ls further →
      AllNumbers (all_events ls (and_further received further))
  further_numbers [] further h may = tt
  further_numbers (l ∷ ls) further h may =
      events_append (and_further received further l) (all_events ls (and_further received further))
      (events_append (events_by received l) (further l) h.0 (numbers_of_further limit (channel_clock (received l)) (further l) may.0))
      (further_numbers ls further h.1 may.1)

  -- before the least channel clock all further events are the same as none
  same_before : (bound n : ℕ) (ls : List ℕ) (further : ℕ → List Event) → AllMayCome limit received ls further →
      n < least_of limit bound ls received →
      deliveries_at limit (all_events ls (and_further received further)) n ≡ deliveries_at limit (all_events ls (events_by received)) n
  same_before bound n [] further may lt = refl
  same_before bound n (l ∷ ls) further may lt =
      let none = none_earlier limit (channel_clock (received l)) (further l) n may.0 (omega arith) in
      at_append limit (and_further received further l) (all_events ls (and_further received further)) n
      ∙ ap (λ (ds : List Delivery). ds ++ deliveries_at limit (all_events ls (and_further received further)) n)
      (at_append limit (events_by received l) (further l) n
      ∙ ap (λ (ds : List Delivery). deliveries_at limit (events_by received l) n ++ ds) none
      ∙ append-nil (deliveries_at limit (events_by received l) n))
      ∙ ap (λ (ds : List Delivery). deliveries_at limit (events_by received l) n ++ ds)
      (same_before bound n ls further may.1 (omega arith))
      ∙ sym (at_append limit (events_by received l) (all_events ls (events_by received)) n)

not_false : (b : Bool) → not b ≡ false → b ≡ true
not_false true h = refl
not_false false h = absurd (cc)

below_most : (bound m : ℕ) (next : Option ℕ) → m ≤ at_most bound next → IsFrom m next
below_most bound m None h = tt
below_most bound m (Some n) h = omega arith

above_most : (bound m : ℕ) (next : Option ℕ) → IsFrom m next → min m bound ≤ at_most bound next
above_most bound m None h = omega arith
above_most bound m (Some n) h = omega arith

module _ (fits : ℕ → State → Bool) (s : Share) (received : ℕ → List Packet) (sound : IsSoundShare fits s)
    (ours : AllReceivedNumbers received s.incoming) (k : ℕ) (at : k ≤ least_clock s received) where
  abbrev until : ℕ
  until = known_until s received k

  until_not_before : k ≤ until
  until_not_before = first_not_before (brings s (events_by received)) k (least_clock s received - k)

  until_heard : until ≤ least_clock s received
  until_heard = omega (arith, first_not_past (brings s (events_by received)) k (least_clock s received - k))

  come_at : (events : ℕ → List Event) → AllNumbers (all_events s.incoming events) → (n : ℕ) →
      BringsOnly are_of_numbers (network s.flat) (inputs_by s events n)
  come_at events all n =
      numbers_come s.flat (s.outside n) (deliveries_at s.limit (all_events s.incoming events) n) (sound.outside n)
      (numbers_at s.limit (all_events s.incoming events) n all)

  waits : IsWaiting (by_index fits s.flat.members) are_of_numbers s.response s.limit (network s.flat)
      (inputs_by s (events_by received)) k until
  waits = record {
    ready = is_ready fits (λ k. s.response) s.flat sound.sound;
    keep = all_keep fits (λ k. s.response) s.flat.members sound.sound;
    respond = all_respond fits s.response s.flat.members sound.sound;
    fit = states_stay fits (λ k. s.response) s.limit s.flat sound.sound (inputs_by s (events_by received)) sound.outside
        (λ n. numbers_at s.limit (all_events s.incoming (events_by received)) n (received_numbers s.limit received s.incoming ours)) k;
    order = until_not_before;
    silent = λ j le lt. not_false _ (none_before_first (brings s (events_by received)) k (least_clock s received - k) j le lt);
    comes_later = λ j le. come_at (events_by received) (received_numbers s.limit received s.incoming ours) j;
  }

  pub promise_settled : (out : Outgoing) (u : Time) → rank s.limit u ≤ promise s received k → IsSettled s received out u
  promise_settled out u far further may n lt last =
      let decided = decided_at (by_index fits s.flat.members) are_of_numbers s.response s.limit (network s.flat)
      (inputs_by s (events_by received)) k until (rank s.limit u) waits
      (below_most (end_rank s) (rank s.limit u)
      (foreseen s.limit k (components_at s.limit (network s.flat) (inputs_by s (events_by received)) k) until s.response) far) in
      let alike : (j : ℕ) → j < until →
      ArriveAlike (network s.flat) (inputs_by s (events_by received) j) (inputs_by s (and_further received further) j)
      = λ j less sent. ap (λ (ds : List Delivery). (network s.flat).arrives sent (s.outside j, ds))
      (sym (same_before s.limit received (end_rank s) j s.incoming further may (omega (arith, until_heard)))) in
      let come : (j : ℕ) → until ≤ j → BringsOnly are_of_numbers (network s.flat) (inputs_by s (and_further received further) j)
      = λ j le. come_at (and_further received further) (further_numbers s.limit received s.incoming further ours may) j in
      ap (λ (sent : List (List Counts)). in_order (carried out.links (sent_of (numbers s.flat.members) sent)))
      (sym (decided (inputs_by s (and_further received further)) alike come n lt))

  pub promise_later : min (suc k) (end_rank s) ≤ promise s received k
  promise_later =
      above_most (end_rank s) (suc k)
      (foreseen s.limit k (components_at s.limit (network s.flat) (inputs_by s (events_by received)) k) until s.response)
      (foreseen_later s.limit (network s.flat) (inputs_by s (events_by received)) s.response k until
      (is_ready fits (λ k. s.response) s.flat sound.sound) until_not_before)

most_within : (bound : ℕ) (next : Option ℕ) → at_most bound next ≤ bound
most_within bound None = omega arith
most_within bound (Some n) = omega arith

pub promise_within : (s : Share) (received : ℕ → List Packet) (k : ℕ) → promise s received k ≤ end_rank s
promise_within s received k =
    most_within (end_rank s)
    (foreseen s.limit k (components_at s.limit (network s.flat) (inputs_by s (events_by received)) k) (known_until s received k) s.response)
