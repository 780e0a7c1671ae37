-- A process by rules, and the same process by programs: they have the same local runs, so they send and promise the same.
use Rattle.std.proofs.Common.{◌≡◌, ℕ, ◌+◌, ◌-◌, ◌≤◌, Bool, not, List, [], ◌∷◌, ◌++◌, sym, ap, ◌∙◌, subst, arith}
use Rattle.std.proofs.Math.Path.{fun_ext}
use Rattle.dv_time.specs.Time.{rank}
use Rattle.dv_time.specs.declared.time.Time.{Time}
use Rattle.dv_bag.specs.Bag.{Counts}
use Rattle.dv_devs.specs.Behaviour.{Component}
use Rattle.dv_devs.specs.Fits.{AreAlike}
use Rattle.dv_devs.specs.Idle.{no_values, nothing_sent}
use Rattle.dv_devs.specs.Network.{emissions_at}
use Rattle.dv_devs.proofs.Fits.{components_run_alike, emissions_run_alike}
use Rattle.dv_conservative.specs.Events.{Event, events_between, in_order}
use Rattle.dv_conservative.specs.Flat.{Member, network, numbers, received}
use Rattle.dv_conservative.specs.Links.{Delivery, carried, inbox, sent_of}
use Rattle.dv_conservative.specs.Process.{IsSettled, Outgoing, Packet, Share, and_further, at_most, brings, components_by}
use Rattle.dv_conservative.specs.Process.{end_rank, events_by, first_from, inputs_by, known_until, least_clock, packet_of, promise}
use Rattle.dv_conservative.specs.Process.{sent_on}
use Rattle.dv_conservative.specs.Promise.{foreseen}
use Rattle.dv_conservative.specs.Turn.{AllPromised, IsPromised, Position, Progresses}
use Rattle.law_compiled.proofs.Alike.{anything}
use Rattle.law_rules.proofs.Pairs.{AllPairs, all_agree, all_fit, all_keep, anything_comes, fits_at, same_numbers, same_received}
use Rattle.law_rules.proofs.Pairs.{same_silence, same_starts}

-- a share with other components
abbrev pub with_members : List Member → Share → Share
with_members ns r = record {
  limit = r.limit;
  horizon = r.horizon;
  flat = record { members = ns; links = r.flat.links; entrances = r.flat.entrances; exits = r.flat.exits; outputs = r.flat.outputs };
  outside = r.outside;
  incoming = r.incoming;
  outgoing = r.outgoing;
  response = r.response;
}

module _ (r : Share) (ns : List Member) (pairs : AllPairs r.flat.members ns) where
  abbrev other : Share
  other = with_members ns r

  abbrev ms : List Member
  ms = r.flat.members

  same_arrivals : (sent : List (List Counts)) (input : List Counts × List Delivery)
      → (network r.flat).arrives sent input ≡ (network other.flat).arrives sent input
  same_arrivals sent input =
      ap (λ (ks : List ℕ).
      received ms (carried r.flat.entrances (λ k. input.0) ++ (carried r.flat.links (sent_of ks sent) ++ input.1))) (same_numbers ms ns pairs)
      ∙ same_received ms ns (carried r.flat.entrances (λ k. input.0) ++ (carried r.flat.links (sent_of (numbers ns) sent) ++ input.1)) pairs

  alike : (inputs : ℕ → List Counts × List Delivery)
      → AreAlike (fits_at ms ns pairs) anything r.limit (network r.flat) (network other.flat) inputs
  alike inputs =
      let tests = fits_at ms ns pairs in
      let at : (j n : ℕ) → n ≡ 0 + j → tests n ≡ fits_at ms ns pairs j =
      λ j n e. ap tests (let same : n ≡ j = omega (arith, e) in same) in
      record {
        keep = all_keep tests ms ns pairs 0 at;
        agree = all_agree tests ms ns pairs 0 at;
        numbers = same_numbers ms ns pairs;
        start = same_starts ms ns pairs;
        fit = all_fit tests ms ns pairs 0 at;
        arrives = λ n. same_arrivals (emissions_at r.limit (network r.flat) inputs n) (inputs n);
        leaves = λ n.
            ap (λ (ks : List ℕ).
            inbox 0 (carried r.flat.exits (sent_of ks (emissions_at r.limit (network r.flat) inputs n))) 0 r.flat.outputs)
            (same_numbers ms ns pairs);
      }

  pub same_components : (events : ℕ → List Event) (n : ℕ) → components_by other events n ≡ components_by r events n
  same_components events n =
      let inputs = inputs_by r events in
      sym (components_run_alike (fits_at ms ns pairs) anything r.limit (network r.flat) inputs (network other.flat) (alike inputs) n
      (anything_comes r.limit (network r.flat) inputs n))

  pub same_sent : (events : ℕ → List Event) (out : Outgoing) (n : ℕ) → sent_on other events out n ≡ sent_on r events out n
  same_sent events out n =
      let inputs = inputs_by r events in
      sym (
      ap (λ (sent : List (List Counts)). carried out.links (sent_of (numbers ms) sent))
      (emissions_run_alike (fits_at ms ns pairs) anything r.limit (network r.flat) inputs (network other.flat) (alike inputs) n
      (anything_comes r.limit (network r.flat) inputs n))
      ∙ ap (λ (ks : List ℕ). carried out.links (sent_of ks (emissions_at r.limit (network other.flat) inputs n)))
      (same_numbers ms ns pairs))

  pub same_packet : (events : ℕ → List Event) (out : Outgoing) (from upto : Time)
      → packet_of other events out from upto ≡ packet_of r events out from upto
  same_packet events out from upto =
      ap (λ (sent : ℕ → List Delivery). let p : Packet = record {
        link = out.number;
        from = from;
        upto = upto;
        events = events_between r.limit sent (rank r.limit from) (rank r.limit upto);
      } in p) (fun_ext (same_sent events out))

  pub still_settled : (received : ℕ → List Packet) (out : Outgoing) (u : Time) → IsSettled other received out u → IsSettled r received out u
  still_settled received out u settled = λ further may n lt end.
      ap in_order (sym (same_sent (and_further received further) out n))
      ∙ settled further may n lt end
      ∙ ap in_order (same_sent (events_by received) out n)

  same_brings : (events : ℕ → List Event) (n : ℕ) → brings other events n ≡ brings r events n
  same_brings events n =
      let input = inputs_by r events n in
      sym (
      ap (λ (bags : List (List Counts)). not (no_values bags))
      (same_arrivals (nothing_sent (network r.flat)) input
      ∙ ap (λ (sent : List (List Counts)). (network other.flat).arrives sent input) (same_silence ms ns pairs)))

  pub same_promise : (received : ℕ → List Packet) (k : ℕ) → promise other received k ≡ promise r received k
  same_promise received k =
      ap (λ (cs : List Component). at_most (end_rank r) (foreseen r.limit k cs (known_until other received k) r.response))
      (same_components (events_by received) k)
      ∙ ap (λ (test : ℕ → Bool). at_most (end_rank r)
      (foreseen r.limit k (components_by r (events_by received) k) (first_from test k (least_clock r received - k)) r.response))
      (fun_ext (same_brings (events_by received)))

  promises : (received : ℕ → List Packet) (x y : Position) (os : List Outgoing)
      → AllPromised other received x y os → AllPromised r received x y os
  promises received x y [] h = tt
  promises received x y (o ∷ os) h = (by_link, promises received x y os h.1)
    where
      by_link : IsPromised r received x y o
      by_link free =
          let both = h.0 free in
          (subst (λ (n : ℕ). n ≤ rank r.limit (y.promised o.number)) (same_promise received (rank r.limit y.clock)) both.0, both.1)

  pub same_progress : (received : ℕ → List Packet) (x y : Position) → Progresses other received x y → Progresses r received x y
  same_progress received x y h = record { clock = h.clock; links = promises received x y r.outgoing h.links }
