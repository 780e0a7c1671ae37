-- Where nothing is due no component is looked at.
use Rattle.std.proofs.Common.{◌≡◌, ◌⊎◌, inl, inr, ℕ, suc, ◌+◌, ◌≤◌, Bool, true, false, not, cond, nat_lt, length, List, [], ◌∷◌}
use Rattle.std.proofs.Common.{Option, Some, None, refl, ap, sym, ◌∙◌, subst, arith}
use Rattle.std.specs.List.{count_by}
use Rattle.std.proofs.lemmas.Bool.{and_parts}
use Rattle.std.proofs.lemmas.Bool.Decides.{nat_tests}
use Rattle.dv_time.specs.Time.{rank}
use Rattle.dv_time.specs.declared.time.Time.{Time}
use Rattle.dv_bag.specs.Bag.{Counts}
use Rattle.dv_devs.proofs.Idle.{none_send}
use Rattle.dv_devs.proofs.NextTimes.{least_next_at, matched_at}
use Rattle.dv_devs.proofs.Stretches.{all_from, none_imminent_before}
use Rattle.dv_devs.specs.Behaviour.{Component, all_empty, is_at, is_imminent}
use Rattle.dv_devs.specs.Idle.{no_values, nothing_sent}
use Rattle.dv_devs.specs.Network.{Network}
use Rattle.dv_devs.specs.NextTimes.{AllFrom, IsFrom, IsReady, least_next}
use Rattle.dv_conservative.proofs.Numbers.{is_ready}
use Rattle.dv_conservative.specs.Events.{Event}
use Rattle.dv_conservative.specs.Flat.{network}
use Rattle.dv_conservative.specs.Links.{Delivery}
use Rattle.dv_conservative.specs.Process.{Share, brings, components_by, end_rank, events_by, inputs_by}
use Rattle.dv_proc.specs.Accesses.{CountsTurn, accesses_at, accesses_between, imminent_at, receiving_at}
use Rattle.dv_proc.specs.Arriving.{received_by}
use Rattle.dv_proc.specs.Local.{View, brings_at, input_at, sent_at}
use Rattle.dv_proc.specs.Standing.{IsDue, IsProcess}
use Rattle.dv_proc.specs.declared.incoming.Incoming.{Incoming}
use Rattle.dv_proc.specs.declared.outgoing.Outgoing.{Outgoing}
use Rattle.dv_proc.proofs.Runs.{brings_alike}

false_or_true : (b : Bool) → (b ≡ false) ⊎ (b ≡ true)
false_or_true true = inr refl
false_or_true false = inl refl

not_true : (b : Bool) → ¬ (b ≡ true) → b ≡ false
not_true true h = absurd (h refl)
not_true false h = refl

negated : (b : Bool) → not b ≡ false → b ≡ true
negated true h = refl
negated false h = absurd (cc)

-- a next time that is not now is later
later : (k : ℕ) (next : Option ℕ) → IsFrom k next → is_at k next ≡ false → IsFrom (suc k) next
later k None h e = tt
later k (Some n) h e = grind (arith, nat_tests)

not_at : (k : ℕ) (next : Option ℕ) → IsFrom (suc k) next → is_at k next ≡ false
not_at k None h = refl
not_at k (Some n) h = grind (arith, nat_tests)

-- where all next times are later none is imminent
none_imminent : (k : ℕ) (cs : List Component) → AllFrom (suc k) cs → count_by (is_imminent k) cs ≡ 0
none_imminent k [] h = refl
none_imminent k (c ∷ cs) h =
    let here : is_imminent k c ≡ false = not_at k c.next h.0 in
    let rest : count_by (is_imminent k) cs ≡ 0 = none_imminent k cs h.1 in
    rw here (omega (arith, rest))

-- where there are no values nobody receives one
none_receive : (received : List (List Counts)) → no_values received ≡ true →
    count_by (λ (bags : List Counts). not (all_empty bags)) received ≡ 0
none_receive [] h = refl
none_receive (bags ∷ rest) h =
    let both = and_parts (all_empty bags) (no_values rest) h in
    let others : count_by (λ (xs : List Counts). not (all_empty xs)) rest ≡ 0 = none_receive rest both.1 in
    rw both.0 (omega (arith, others))

module _ (v : View) (is : List Incoming) (os : List Outgoing) (clock : Time) (process : IsProcess v is os clock)
    (idle : ¬ IsDue v.share (received_by is) (rank v.share.limit clock)) where
  abbrev k : ℕ
  k = rank v.share.limit clock

  abbrev events : ℕ → List Event
  events = events_by (received_by is)

  abbrev net : Network (List Counts × List Delivery)
  net = network v.share.flat

  ready : IsReady net
  ready = is_ready process.standing.sound.0 (λ k. v.share.response) v.share.flat process.standing.sound.1.sound

  brings_none : brings_at v k ≡ false
  brings_none = brings_alike v events k process.run k (omega arith) ∙ not_true (brings v.share events k) (λ h. idle (inr h))

  at_none : is_at k (least_next v.components) ≡ false
  at_none =
      ap (λ (cs : List Component). is_at k (least_next cs)) process.run.components
      ∙ not_true (is_at k (least_next (components_by v.share events k))) (λ h. idle (inl h))

  from : IsFrom k (least_next v.components)
  from = subst (λ (cs : List Component). IsFrom k (least_next cs)) (sym process.run.components)
      (least_next_at v.share.limit net (inputs_by v.share events) ready k)

  all_later : IsFrom (suc k) (least_next v.components)
  all_later = later k (least_next v.components) from at_none

  matched : length net.behaviours ≡ length v.components
  matched = matched_at v.share.limit net (inputs_by v.share events) ready k ∙ ap length (sym process.run.components)

  nothing : sent_at v k ≡ nothing_sent net
  nothing = none_send net.behaviours k v.components matched (none_imminent_before k (suc k) v.components (omega arith) all_later)

  no_arrivals : no_values (net.arrives (sent_at v k) (input_at v k)) ≡ true
  no_arrivals = ap (λ (sent : List (List Counts)). no_values (net.arrives sent (input_at v k))) nothing ∙ negated _ brings_none

  pub none_seen : accesses_at v k ≡ 0
  none_seen =
      let imminent : imminent_at v k ≡ 0 = none_imminent k v.components (all_from (suc k) v.components all_later) in
      let receiving : receiving_at v k ≡ 0 = none_receive (net.arrives (sent_at v k) (input_at v k)) no_arrivals in
      omega (arith, imminent, receiving)

at_most_both : (a b : Bool) (x y : ℕ) → cond a (x + cond b y 0) 0 ≤ x + y
at_most_both true true x y = omega arith
at_most_both true false x y = omega arith
at_most_both false b x y = omega arith

-- a turn over two ranks at which no component is looked at leaves the visits as they were
pub visits_stay : (k n : ℕ) (v w : View) (before after : ℕ) → CountsTurn k n v w before after → accesses_at v k ≡ 0 →
    accesses_at w n ≡ 0 → after ≡ before
visits_stay k n v w before after counted here there =
    let most : accesses_between k n v w ≤ accesses_at v k + accesses_at w n =
    at_most_both (nat_lt k n) (nat_lt n (end_rank w.share)) (accesses_at v k) (accesses_at w n) in
    omega (arith, most, counted.most, counted.never_falls, here, there)

-- a turn at which nothing is due leaves the visits as they were
pub still_unseen : (v w : View) (before after : ℕ) (is js : List Incoming) (os ps : List Outgoing) (clock now : Time) →
    IsProcess v is os clock → IsProcess w js ps now → w.share ≡ v.share → js ≡ is →
    CountsTurn (rank v.share.limit clock) (rank v.share.limit now) v w before after →
    ¬ IsDue v.share (received_by is) (rank v.share.limit clock) → ¬ IsDue v.share (received_by is) (rank v.share.limit now) →
    after ≡ before
still_unseen v w before after is js os ps clock now process moved share same counted here there =
    let idle : ¬ IsDue w.share (received_by js) (rank w.share.limit now) =
    subst (λ (s : Share). ¬ IsDue s (received_by js) (rank s.limit now)) (sym share)
    (subst (λ (ks : List Incoming). ¬ IsDue v.share (received_by ks) (rank v.share.limit now)) (sym same) there) in
    let none : accesses_at w (rank v.share.limit now) ≡ 0 =
    ap (λ (s : Share). accesses_at w (rank s.limit now)) (sym share) ∙ none_seen w js ps now moved idle in
    visits_stay (rank v.share.limit clock) (rank v.share.limit now) v w before after counted (none_seen v is os clock process here) none
