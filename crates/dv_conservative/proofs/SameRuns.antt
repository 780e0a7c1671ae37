-- Shares that are alike run alike.
use Rattle.std.proofs.Common.{◌≡◌, inl, inr, ℕ, ◌-◌, ◌<◌, ◌≤◌, Bool, not, List, [], ◌∷◌, Some, refl, ap, sym, ◌∙◌, subst}
use Rattle.std.proofs.Math.Path.{fun_ext}
use Rattle.dv_time.specs.Time.{rank}
use Rattle.dv_time.specs.declared.time.Time.{Time}
use Rattle.dv_bag.specs.Bag.{Counts}
use Rattle.dv_devs.proofs.Runs.{components_agree, emissions_agree, traces_agree}
use Rattle.dv_devs.specs.Behaviour.{Component}
use Rattle.dv_devs.specs.Idle.{no_values, nothing_sent}
use Rattle.dv_conservative.specs.Events.{Event, deliveries_at, events_between, in_order}
use Rattle.dv_conservative.specs.Flat.{network, numbers}
use Rattle.dv_conservative.specs.Links.{Delivery, carried, sent_of}
use Rattle.dv_conservative.specs.Process.{IsSettled, Outgoing, Packet, Share, all_events, and_further, at_most, brings}
use Rattle.dv_conservative.specs.Process.{components_by, end_rank, events_by, first_from, inputs_by, known_until, least_clock}
use Rattle.dv_conservative.specs.Process.{packet_of, part_by, promise, refusal_of, sent_on}
use Rattle.dv_conservative.specs.Promise.{foreseen}
use Rattle.dv_conservative.specs.Turn.{AllMayBecome, AllPromised, IsPromised, IsTurnOf, MayBecome, Position, Prepares, turned}
use Rattle.dv_conservative.specs.Alike.{AreAlike, with_outside}

module _ (s t : Share) (alike : AreAlike s t) where
  -- the one with the bags of the other
  abbrev one : Share
  one = with_outside s.outside t

  arrives : (events : ℕ → List Event) (n k : ℕ) → k < n → (sent : List (List Counts)) →
      (network t.flat).arrives sent (inputs_by one events k) ≡ (network t.flat).arrives sent (inputs_by t events k)
  arrives events n k lt sent = alike.outside k (deliveries_at t.limit (all_events t.incoming events) k) sent

  pub same_components : (events : ℕ → List Event) (n : ℕ) → components_by s events n ≡ components_by t events n
  same_components events n =
      ap (λ (x : Share). components_by x events n) alike.same
      ∙ components_agree t.limit (network t.flat) (inputs_by one events) (inputs_by t events) n (arrives events n)

  pub same_part : (events : ℕ → List Event) (n : ℕ) → part_by s events n ≡ part_by t events n
  same_part events n =
      ap (λ (x : Share). part_by x events n) alike.same
      ∙ traces_agree t.limit (network t.flat) (inputs_by one events) (inputs_by t events) n (arrives events n)

  one_sends : (events : ℕ → List Event) (out : Outgoing) (n : ℕ) → sent_on one events out n ≡ sent_on t events out n
  one_sends events out n =
      ap (λ (sent : List (List Counts)). carried out.links (sent_of (numbers t.flat.members) sent))
      (emissions_agree t.limit (network t.flat) (inputs_by one events) (inputs_by t events) n (arrives events n))

  pub same_sent : (events : ℕ → List Event) (out : Outgoing) (n : ℕ) → sent_on s events out n ≡ sent_on t events out n
  same_sent events out n = ap (λ (x : Share). sent_on x events out n) alike.same ∙ one_sends events out n

  one_packet : (events : ℕ → List Event) (out : Outgoing) (from upto : Time) → packet_of one events out from upto
      ≡ packet_of t events out from upto
  one_packet events out from upto =
      ap (λ (sent : ℕ → List Delivery). let p : Packet = record {
        link = out.number;
        from = from;
        upto = upto;
        events = events_between t.limit sent (rank t.limit from) (rank t.limit upto);
      } in p) (fun_ext (one_sends events out))

  pub same_packet : (events : ℕ → List Event) (out : Outgoing) (from upto : Time) → packet_of s events out from upto
      ≡ packet_of t events out from upto
  same_packet events out from upto =
      ap (λ (x : Share). packet_of x events out from upto) alike.same ∙ one_packet events out from upto

  pub still_settled : (received : ℕ → List Packet) (out : Outgoing) (u : Time) → IsSettled s received out u → IsSettled t received out u
  still_settled received out u settled =
      let of_one = subst (λ (x : Share). IsSettled x received out u) alike.same settled in
      λ further may n lt end.
      ap in_order (sym (one_sends (and_further received further) out n))
      ∙ of_one further may n lt end
      ∙ ap in_order (one_sends (events_by received) out n)

  one_brings : (events : ℕ → List Event) (n : ℕ) → brings one events n ≡ brings t events n
  one_brings events n =
      ap (λ (bags : List (List Counts)). not (no_values bags))
      (alike.outside n (deliveries_at t.limit (all_events t.incoming events) n) (nothing_sent (network t.flat)))

  one_components : (received : ℕ → List Packet) (k : ℕ) → components_by one (events_by received) k ≡ components_by t (events_by received) k
  one_components received k =
      components_agree t.limit (network t.flat) (inputs_by one (events_by received)) (inputs_by t (events_by received)) k
      (arrives (events_by received) k)

  one_promise : (received : ℕ → List Packet) (k : ℕ) → promise one received k ≡ promise t received k
  one_promise received k =
      ap (λ (cs : List Component). at_most (end_rank t) (foreseen t.limit k cs (known_until one received k) t.response))
      (one_components received k)
      ∙ ap (λ (test : ℕ → Bool). at_most (end_rank t)
      (foreseen t.limit k (components_by t (events_by received) k) (first_from test k (least_clock t received - k)) t.response))
      (fun_ext (one_brings (events_by received)))

  pub same_promise : (received : ℕ → List Packet) (k : ℕ) → promise s received k ≡ promise t received k
  same_promise received k = ap (λ (x : Share). promise x received k) alike.same ∙ one_promise received k

  pub same_refusal : (received : ℕ → List Packet) (p : Packet) → refusal_of s received p ≡ refusal_of t received p
  same_refusal received p = ap (λ (x : Share). refusal_of x received p) alike.same

  -- ---- Turns

  prepares : (received : ℕ → List Packet) (o : Outgoing) (x y : Position) → Prepares one received o x y → Prepares t received o x y
  prepares received o x y h = record {
    upto = h.upto;
    free = h.free;
    later = h.later;
    within = h.within;
    kept = subst (λ (n : ℕ). rank t.limit h.upto ≤ n) (one_promise received (rank t.limit y.clock)) h.kept;
    stands = h.stands ∙ ap Some (one_packet (events_by received) o (x.promised o.number) h.upto);
    promised = h.promised;
  }

  becomes : (received : ℕ → List Packet) (x y : Position) (os : List Outgoing)
      → AllMayBecome one received x y os → AllMayBecome t received x y os
  becomes received x y [] h = tt
  becomes received x y (o ∷ os) h = (by_link h.0, becomes received x y os h.1)
    where
      by_link : MayBecome one received o x y → MayBecome t received o x y
      by_link (inl stays) = inl stays
      by_link (inr made) = inr (prepares received o x y made)

  promises : (received : ℕ → List Packet) (x y : Position) (os : List Outgoing)
      → AllPromised one received x y os → AllPromised t received x y os
  promises received x y [] h = tt
  promises received x y (o ∷ os) h = (by_link, promises received x y os h.1)
    where
      by_link : IsPromised t received x y o
      by_link free =
          let both = h.0 free in
          (subst (λ (n : ℕ). n ≤ rank t.limit (y.promised o.number)) (one_promise received (rank t.limit y.clock)) both.0, both.1)

  pub same_turn : (received : ℕ → List Packet) (x y : Position) → IsTurnOf s received x y → IsTurnOf t received x y
  same_turn received x y turn =
      let h = subst (λ (z : Share). IsTurnOf z received x y) alike.same turn in
      record {
        may = record {
          rises = h.may.rises;
          within = h.may.within;
          heard = h.may.heard;
          links = becomes received x y t.outgoing h.may.links;
        };
        must = record { clock = h.must.clock; links = promises received x y t.outgoing h.must.links };
      }

  pub same_answer : (x y : Position) → turned s x y ≡ turned t x y
  same_answer x y = ap (λ (z : Share). turned z x y) alike.same

  pub same_limit : s.limit ≡ t.limit
  same_limit = ap (λ (z : Share). z.limit) alike.same

pub alike_itself : (s : Share) → AreAlike s s
alike_itself s = record { same = refl; outside = λ n ds sent. refl }

pub equal_alike : (s t : Share) → s ≡ t → AreAlike s t
equal_alike s t e = subst (AreAlike s) e (alike_itself s)
