-- What is settled stays so when a packet is received.
use Rattle.std.proofs.Common.{◌≡◌, ℕ, ◌<◌, ◌≤◌, Bool, true, false, cond, nat_eq, List, [], ◌∷◌, ◌++◌, append-nil, append_assoc}
use Rattle.std.proofs.Common.{None, refl, sym, ap, ◌∙◌, subst, arith}
use Rattle.dv_time.specs.Time.{rank}
use Rattle.dv_time.specs.declared.time.Time.{Time}
use Rattle.dv_bag.specs.Bag.{Counts}
use Rattle.dv_devs.proofs.Runs.{emissions_agree}
use Rattle.dv_conservative.specs.Events.{Event, deliveries_at, in_order}
use Rattle.dv_conservative.specs.Flat.{network, numbers}
use Rattle.dv_conservative.specs.Links.{carried, sent_of}
use Rattle.dv_conservative.specs.Process.{AllMayCome, IsSettled, MayCome, Outgoing, Packet, Share, all_events, and_further}
use Rattle.dv_conservative.specs.Process.{channel_clock, clock_after, end_rank, events_by, events_in, first_time, inputs_by}
use Rattle.dv_conservative.specs.Process.{refusal_of, sent_on, with_packet}
use Rattle.dv_conservative.proofs.Later.{events_last, first, window_of}
use Rattle.dv_conservative.proofs.Local.{same_number}

-- what may come later may come
later_may : (limit : ℕ) (t u : Time) (es : List Event) → rank limit t ≤ rank limit u → MayCome limit u es → MayCome limit t es
later_may limit t u [] le h = tt
later_may limit t u (e ∷ es) le h = (omega (arith, h.0), h.1, h.2, later_may limit t u es le h.3)

both_may : (limit : ℕ) (t : Time) (es fs : List Event) → MayCome limit t es → MayCome limit t fs → MayCome limit t (es ++ fs)
both_may limit t [] fs h k = k
both_may limit t (e ∷ es) fs h k = (h.0, h.1, h.2, both_may limit t es fs h.3 k)

same_events : (ls : List ℕ) (one other : ℕ → List Event) → ((l : ℕ) → one l ≡ other l) → all_events ls one ≡ all_events ls other
same_events [] one other h = refl
same_events (l ∷ ls) one other h =
    ap (λ (es : List Event). es ++ all_events ls one) (h l) ∙ ap (λ (es : List Event). other l ++ es) (same_events ls one other h)

same_sent : (s : Share) (one other : ℕ → List Event) (out : Outgoing) (n : ℕ) → ((l : ℕ) → one l ≡ other l) →
    sent_on s one out n ≡ sent_on s other out n
same_sent s one other out n h =
    ap (λ (sent : List (List Counts)). carried out.links (sent_of (numbers s.flat.members) sent))
    (emissions_agree s.limit (network s.flat) (inputs_by s one) (inputs_by s other) n
    (λ j lt sent. ap (λ (es : List Event). (network s.flat).arrives sent (s.outside j, deliveries_at s.limit es j))
    (same_events s.incoming one other h)))

last_clock : (start : Time) (ps : List Packet) (p : Packet) → clock_after start (ps ++ p ∷ []) ≡ p.upto
last_clock start [] p = refl
last_clock start (q ∷ ps) p = last_clock q.upto ps p

module _ (s : Share) (received : ℕ → List Packet) (p : Packet) (fine : refusal_of s received p ≡ None)
    (may : MayCome s.limit p.from p.events) where
  -- the packet's events on its link, and what comes after it
  also : (ℕ → List Event) → ℕ → List Event
  also further l = cond (nat_eq l p.link) p.events [] ++ further l

  abbrev nothing : ℕ → List Event
  nothing l = []

  same_link : (further : ℕ → List Event) (l : ℕ) → and_further (with_packet received p) further l ≡ and_further received (also further) l
  unfolding also
  same_link further l = by_number (nat_eq l p.link)
    where
      by_number : (t : Bool) →
          events_in (cond t (received l ++ p ∷ []) (received l)) ++ further l ≡ events_in (received l) ++ (cond t p.events [] ++ further l)
      by_number true =
          ap (λ (es : List Event). es ++ further l) (events_last s received p fine (received l))
          ∙ append_assoc (events_in (received l)) p.events (further l)
      by_number false = refl

  also_may : (further : ℕ → List Event) (l : ℕ) → MayCome s.limit (channel_clock (with_packet received p l)) (further l) →
      MayCome s.limit (channel_clock (received l)) (also further l)
  unfolding also
  also_may further l h = by_number (nat_eq l p.link) refl h
    where
      by_number : (t : Bool) → nat_eq l p.link ≡ t →
          MayCome s.limit (channel_clock (cond t (received l ++ p ∷ []) (received l))) (further l) →
          MayCome s.limit (channel_clock (received l)) (cond t p.events [] ++ further l)
      by_number true e h =
          let same : l ≡ p.link = same_number l p.link e in
          let from : p.from ≡ channel_clock (received l)
          = first s received p fine ∙ ap (λ (i : ℕ). channel_clock (received i)) (sym same) in
          let start : rank s.limit p.from ≡ rank s.limit (channel_clock (received l)) = ap (rank s.limit) from in
          let window = window_of s received p fine in
          let after : MayCome s.limit p.upto (further l)
          = subst (λ (t : Time). MayCome s.limit t (further l)) (last_clock first_time (received l) p) h in
          both_may s.limit (channel_clock (received l)) p.events (further l)
          (subst (λ (t : Time). MayCome s.limit t p.events) from may)
          (later_may s.limit (channel_clock (received l)) p.upto (further l) (omega (arith, window)) after)
      by_number false e h = h

  all_also : (further : ℕ → List Event) (ls : List ℕ) → AllMayCome s.limit (with_packet received p) ls further →
      AllMayCome s.limit received ls (also further)
  all_also further [] h = tt
  all_also further (l ∷ ls) h = (also_may further l h.0, all_also further ls h.1)

  no_further : (ls : List ℕ) → AllMayCome s.limit (with_packet received p) ls nothing
  no_further [] = tt
  no_further (l ∷ ls) = (tt, no_further ls)

  module _ (out : Outgoing) (u : Time) (settled : IsSettled s received out u) where
    sent_with : (further : ℕ → List Event) → AllMayCome s.limit (with_packet received p) s.incoming further → (n : ℕ) → n < rank s.limit u →
        n < end_rank s → in_order (sent_on s (and_further (with_packet received p) further) out n)
        ≡ in_order (sent_on s (events_by received) out n)
    sent_with further h n lt last =
        ap in_order (same_sent s (and_further (with_packet received p) further) (and_further received (also further)) out n
        (same_link further))
        ∙ settled (also further) (all_also further s.incoming h) n lt last

    pub sent_still : (n : ℕ) → n < rank s.limit u → n < end_rank s →
        in_order (sent_on s (events_by (with_packet received p)) out n) ≡ in_order (sent_on s (events_by received) out n)
    sent_still n lt last =
        ap in_order (same_sent s (events_by (with_packet received p)) (and_further (with_packet received p) nothing) out n
        (λ l. sym (append-nil (events_by (with_packet received p) l))))
        ∙ sent_with nothing (no_further s.incoming) n lt last

    pub settled_still : IsSettled s (with_packet received p) out u
    settled_still further h n lt last = sent_with further h n lt last ∙ sym (sent_still n lt last)
