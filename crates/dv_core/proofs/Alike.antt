-- What is asked of a turn speaks of the links of the share alone: lists received on other links, and positions on them, may differ.
use Rattle.std.proofs.Common.{◌≡◌, ◌⊎◌, inl, inr, ℕ, ◌-◌, ◌<◌, ◌≤◌, min, not, List, [], ◌∷◌, ◌++◌, Some, refl, sym, ap, subst, ◌∙◌, arith}
use Rattle.dv_time.specs.Time.{rank}
use Rattle.dv_time.specs.declared.time.Time.{Time}
use Rattle.dv_bag.specs.Bag.{Counts}
use Rattle.dv_devs.specs.Idle.{no_values, nothing_sent}
use Rattle.dv_devs.specs.Network.{components_at, trace_before}
use Rattle.dv_conservative.specs.Events.{Event, deliveries_at, events_between}
use Rattle.dv_conservative.specs.Flat.{network, sends_by}
use Rattle.dv_conservative.specs.Links.{Delivery}
use Rattle.dv_conservative.specs.Process.{Outgoing, Packet, Share, all_events, at_most, channel_clock, components_by, end_rank}
use Rattle.dv_conservative.specs.Process.{events_by, events_in, first_from, least_clock, least_of, packet_of, part_by, promise, refusal_of}
use Rattle.dv_conservative.specs.Promise.{foreseen}
use Rattle.dv_conservative.specs.Turn.{AllMayBecome, AllPromised, AllStayOn, IsPromised, IsTurnOf, MayBecome, Position, Prepares, StaysOn}

-- the same was received on each of these links
abbrev pub AllReceiveTheSame : List ℕ → (ℕ → List Packet) → (ℕ → List Packet) → Type 0
AllReceiveTheSame [] f g = Unit {0}
AllReceiveTheSame (l ∷ ls) f g = (f l ≡ g l) × AllReceiveTheSame ls f g

same_events : (ls : List ℕ) (f g : ℕ → List Packet) → AllReceiveTheSame ls f g → all_events ls (events_by f) ≡ all_events ls (events_by g)
same_events [] f g h = refl
same_events (l ∷ ls) f g h =
    ap (λ (ps : List Packet). events_in ps ++ all_events ls (events_by f)) h.0
    ∙ ap (λ (rest : List Event). events_in (g l) ++ rest) (same_events ls f g h.1)

same_least : (limit bound : ℕ) (ls : List ℕ) (f g : ℕ → List Packet) → AllReceiveTheSame ls f g
    → least_of limit bound ls f ≡ least_of limit bound ls g
same_least limit bound [] f g h = refl
same_least limit bound (l ∷ ls) f g h =
    ap (λ (ps : List Packet). min (rank limit (channel_clock ps)) (least_of limit bound ls f)) h.0
    ∙ ap (λ (n : ℕ). min (rank limit (channel_clock (g l))) n) (same_least limit bound ls f g h.1)

-- the inputs of the local run, by all events that were received
abbrev inputs_of : Share → List Event → ℕ → List Counts × List Delivery
inputs_of s events n = (s.outside n, deliveries_at s.limit events n)

abbrev promise_of : Share → ℕ → List Event → ℕ → ℕ
promise_of s k events c =
    at_most (end_rank s)
    (foreseen s.limit k (components_at s.limit (network s.flat) (inputs_of s events) k)
    (first_from (λ j. not (no_values ((network s.flat).arrives (nothing_sent (network s.flat)) (inputs_of s events j)))) k (c - k))
    s.response)

abbrev packet_by : Share → Outgoing → Time → Time → List Event → Packet
packet_by s out from upto events = record {
  link = out.number;
  from = from;
  upto = upto;
  events = events_between s.limit (λ n. sends_by s.limit s.flat out.links (inputs_of s events) n) (rank s.limit from) (rank s.limit upto);
}

module _ (s : Share) (f g : ℕ → List Packet) (same : AllReceiveTheSame s.incoming f g) where
  pub least_alike : least_clock s f ≡ least_clock s g
  least_alike = same_least s.limit (end_rank s) s.incoming f g same

  events_alike : all_events s.incoming (events_by f) ≡ all_events s.incoming (events_by g)
  events_alike = same_events s.incoming f g same

  promise_alike : (k : ℕ) → promise s f k ≡ promise s g k
  promise_alike k =
      ap (λ (c : ℕ). promise_of s k (all_events s.incoming (events_by f)) c) least_alike
      ∙ ap (λ (events : List Event). promise_of s k events (least_clock s g)) events_alike

  packet_alike : (out : Outgoing) (from upto : Time) → packet_of s (events_by f) out from upto ≡ packet_of s (events_by g) out from upto
  packet_alike out from upto = ap (packet_by s out from upto) events_alike

  pub components_alike : (n : ℕ) → components_by s (events_by f) n ≡ components_by s (events_by g) n
  components_alike n = ap (λ (events : List Event). components_at s.limit (network s.flat) (inputs_of s events) n) events_alike

  pub part_alike : (n : ℕ) → part_by s (events_by f) n ≡ part_by s (events_by g) n
  part_alike n = ap (λ (events : List Event). trace_before s.limit (network s.flat) (inputs_of s events) n) events_alike

  module _ (b a x y : Position) (clock_before : b.clock ≡ x.clock) (clock_after : a.clock ≡ y.clock) where
    prepares_alike : (o : Outgoing) → StaysOn o b x → StaysOn o a y → Prepares s f o b a → Prepares s g o x y
    prepares_alike o before after h = record {
      upto = h.upto;
      free = before.stands ∙ h.free;
      later = subst (λ (t : Time). rank s.limit t < rank s.limit h.upto) (sym before.promised) h.later;
      within = h.within;
      kept = subst (λ (t : Time). rank s.limit h.upto ≤ promise s g (rank s.limit t)) clock_after
          (subst (λ (n : ℕ). rank s.limit h.upto ≤ n) (promise_alike (rank s.limit a.clock)) h.kept);
      stands = after.stands ∙ h.stands
          ∙ ap (λ (t : Time). Some (packet_of s (events_by f) o t h.upto)) (sym before.promised)
          ∙ ap (λ (p : Packet). Some p) (packet_alike o (x.promised o.number) h.upto);
      promised = after.promised ∙ h.promised;
    }

    becomes_alike : (os : List Outgoing) → AllStayOn os b x → AllStayOn os a y → AllMayBecome s f b a os → AllMayBecome s g x y os
    becomes_alike [] before after h = tt
    becomes_alike (o ∷ os) before after h = (by_cases h.0, becomes_alike os before.1 after.1 h.1)
      where
        by_cases : MayBecome s f o b a → MayBecome s g o x y
        by_cases (inl stays) = inl (record {
          stands = after.0.stands ∙ stays.stands ∙ sym before.0.stands;
          promised = after.0.promised ∙ stays.promised ∙ sym before.0.promised;
        })
        by_cases (inr made) = inr (prepares_alike o before.0 after.0 made)

    promised_alike : (os : List Outgoing) → AllStayOn os b x → AllStayOn os a y → AllPromised s f b a os → AllPromised s g x y os
    promised_alike [] before after h = tt
    promised_alike (o ∷ os) before after h = (one, promised_alike os before.1 after.1 h.1)
      where
        one : IsPromised s g x y o
        one free =
            let was = h.0 (sym before.0.stands ∙ free) in
            let e = promise_alike (rank s.limit a.clock) in
            let clock : rank s.limit a.clock ≡ rank s.limit y.clock = ap (rank s.limit) clock_after in
            let upto : rank s.limit (y.promised o.number) ≡ rank s.limit (a.promised o.number) = ap (rank s.limit) after.0.promised in
            let later : promise s g (rank s.limit a.clock) ≡ promise s g (rank s.limit y.clock) = ap (promise s g) clock in
            (omega (arith, was.0, e, upto, later), omega (arith, was.1, upto, clock))

    pub turn_alike : AllStayOn s.outgoing b x → AllStayOn s.outgoing a y → IsTurnOf s f b a → IsTurnOf s g x y
    turn_alike before after h = record {
      may = record {
        rises = let one = ap (rank s.limit) clock_before in let other = ap (rank s.limit) clock_after in
            let was = h.may.rises in omega (arith, one, other, was);
        within = subst (λ (t : Time). (t.micro ≤ s.limit) × (rank s.limit t ≤ end_rank s)) clock_after h.may.within;
        heard = let other = ap (rank s.limit) clock_after in let e = least_alike in let was = h.may.heard in omega (arith, other, e, was);
        links = becomes_alike s.outgoing before after h.may.links;
      };
      must = record {
        clock = by_clock h.must.clock;
        links = promised_alike s.outgoing before after h.must.links;
      };
    }
      where
        by_clock : (rank s.limit a.clock ≡ least_clock s f) ⊎ (rank s.limit b.clock < rank s.limit a.clock)
            → (rank s.limit y.clock ≡ least_clock s g) ⊎ (rank s.limit x.clock < rank s.limit y.clock)
        by_clock (inl e) = inl (ap (rank s.limit) (sym clock_after) ∙ e ∙ least_alike)
        by_clock (inr lt) = inr (
            let one = ap (rank s.limit) clock_before in let other = ap (rank s.limit) clock_after in omega (arith, one, other, lt))

-- whether a packet is refused depends on what was received on its link alone
pub refusal_alike : (s : Share) (f g : ℕ → List Packet) (p : Packet) → f p.link ≡ g p.link → refusal_of s f p ≡ refusal_of s g p
refusal_alike s f g p same = ap (λ (on : List Packet). refusal_of s (λ l. on) p) same
