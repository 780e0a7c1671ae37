-- Until a run's next time and an answer to its first input it sends nothing.
use Rattle.std.proofs.Common.{◌≡◌, inl, inr, ℕ, suc, zero, ◌+◌, ◌-◌, ◌/◌, ◌<◌, ◌≤◌, Bool, true, false, not, ◌&&◌, ◌||◌, cond}
use Rattle.std.proofs.Common.{nat_lt, List, [], ◌∷◌, map, Option, Some, None, Result, Ok, Err, IfOk, IsTrue, refl, sym, subst}
use Rattle.std.proofs.Common.{◌∙◌, arith}
use Rattle.std.specs.List.{list_all}
use Rattle.std.proofs.Math.Nat.{div-mul-le_self, mul-le-mul_left}
use Rattle.std.proofs.lemmas.Bool.{cases_lt}
use Rattle.std.proofs.lemmas.Nat.{le-div}
use Rattle.std.proofs.lemmas.Bool.Decides.{nat_tests}
use Rattle.dv_time.specs.Time.{earlier, tick_of, time_of}
use Rattle.dv_bag.specs.Bag.{Counts}
use Rattle.dv_bag.specs.declared.fault.Fault.{Fault}
use Rattle.dv_bag.specs.declared.fault.Fault.TheVariants.{Flood}
use Rattle.dv_bag.specs.declared.state.State.{State}
use Rattle.dv_bag.specs.declared.entry.Kind.{Kind}
use Rattle.dv_devs.specs.Behaviour.{Behaviour, Component, Reaction, Change, Hold, Continues, Begins, state_with_hold}
use Rattle.dv_devs.specs.Behaviour.{external_of, transition_of, rank_or_fault, end_of_hold, next_of, bags_or_flood, are_few}
use Rattle.dv_devs.specs.Behaviour.{reaction_with, reaction_after_output, emission, is_imminent, is_at, all_empty, kind_of}
use Rattle.dv_devs.specs.Fits.{AllFit, AllKeep, Keeps}
use Rattle.dv_devs.specs.Idle.{no_values, none_imminent, nothing_sent}
use Rattle.dv_devs.specs.Inputs.{ArriveAlike}
use Rattle.dv_devs.specs.Network.{Network, reactions, components_at, emissions, emissions_at, first_bags, other_bags}
use Rattle.dv_devs.specs.NextTimes.{AllFrom, IsFrom, IsReady, least_next}
use Rattle.dv_devs.proofs.Fits.{first_comes, others_come}
use Rattle.dv_devs.proofs.Idle.{idle_components, none_send}
use Rattle.dv_devs.proofs.NextTimes.{least_next_at, matched_at, rank_at_time, time_of_run}
use Rattle.dv_devs.proofs.Results.{bind}
use Rattle.dv_devs.proofs.Runs.{components_agree, emissions_agree}
use Rattle.dv_devs.proofs.Stretches.{all_from, up_to_suc}
use Rattle.dv_conservative.specs.Promise.{AllRespond, BringsOnly, IsAtLeast, IsDecided, IsResponse, IsWaiting, foreseen, reach}

both : {A : Type 0} (P Q : A → Type 0) (r : Result A Fault) → IfOk r P → IfOk r Q → IfOk r (λ x. P x × Q x)
both P Q (Ok x) h k = (h, k)
both P Q (Err e) h k = tt

few_or_flood : (bags : List Counts) (few : Bool) → IfOk (cond few (Ok bags) (Err Flood)) (λ x. IsTrue few)
few_or_flood bags true = refl
few_or_flood bags false = tt

-- a hold that is not below the response, and begins at c or later, runs out at the reach or later
tick_rises : (limit c now : ℕ) → c ≤ now → tick_of limit c ≤ tick_of limit now
tick_rises limit c now le = le-div (c / (limit + 1)) now (limit + 1) (omega arith) (omega (arith, div-mul-le_self c (limit + 1)))

next_microstep : (limit now m : ℕ) (more : Bool) → m ≤ suc now →
    IfOk (rank_or_fault limit
    (cond more (Ok (record { tick = tick_of limit now; micro = (time_of limit now).micro + 1 })) (Err (record {})))) (IsFrom m)
next_microstep limit now m true le = omega (arith, rank_at_time limit now)
next_microstep limit now m false le = tt

begun_far : (limit c now m : ℕ) (r hold : Option ℕ) → c ≤ now → IsFrom m (reach limit c r) → IsAtLeast r hold →
    IfOk (end_of_hold limit now hold) (IsFrom m)
begun_far limit c now m r None le far least = tt
begun_far limit c now m None (Some hold) le far least = absurd least
begun_far limit c now m (Some zero) (Some zero) le far least =
    next_microstep limit now m (nat_lt (time_of limit now).micro limit) (omega arith)
begun_far limit c now m (Some zero) (Some (suc hold)) le far least = omega (arith, rank_at_time limit now, time_of_run limit now)
begun_far limit c now m (Some (suc r)) (Some zero) le far least = absurd (omega arith)
begun_far limit c now m (Some (suc r)) (Some (suc hold)) le far least =
    let later : tick_of limit c + suc r ≤ tick_of limit now + suc hold = omega (arith, tick_rises limit c now le) in
    omega (arith, mul-le-mul_left (limit + 1) later)

module _ (fits : State → Bool) (comes : List Counts → Bool) (r : Option ℕ) (limit c now m : ℕ) (from_c : c ≤ now)
    (far : IsFrom m (reach limit c r)) where
  -- after an external transition the state fits, and the hold runs out at m or later
  abbrev IsSteadyAfter : Option ℕ → State × Hold → Type 0
  IsSteadyAfter next p = IsTrue (fits p.0) × IfOk (next_of limit now next p.1) (IsFrom m)

  held_far : (b : Behaviour) (s : State) (next : Option ℕ) → IsTrue (fits s) → IfOk (b.hold s) (IsAtLeast r) →
      IfOk (state_with_hold b s) (IsSteadyAfter next)
  held_far b s next fit least =
      bind (IsAtLeast r) (IsSteadyAfter next) (b.hold s) (λ ticks. Ok (s, Begins ticks)) least
      (λ ticks h. (fit, begun_far limit c now m r ticks from_c far h))

  goes_or_stays : (b : Behaviour) (x : Change) (next : Option ℕ) (goes : Bool) → x.goes ≡ goes → IsFrom m next → IsTrue (fits x.state) →
      (IsTrue x.goes → IfOk (b.hold x.state) (IsAtLeast r)) →
      IfOk (cond goes (state_with_hold b x.state) (Ok (x.state, Continues))) (IsSteadyAfter next)
  goes_or_stays b x next true e ahead fit least = held_far b x.state next fit (least e)
  goes_or_stays b x next false e ahead fit least = (fit, ahead)

  external_far : (b : Behaviour) (elapsed : ℕ) (bags : List Counts) (s : State) (next : Option ℕ) → Keeps fits comes b →
      IsResponse fits comes r b → IsTrue (fits s) → IsTrue (comes bags) → IsTrue (are_few bags) → IsFrom m next →
      IfOk (external_of b elapsed bags (s, Continues)) (IsSteadyAfter next)
  external_far b elapsed bags s next keeps responds fit come few ahead =
      bind (λ (x : Change). IsTrue (fits x.state) × (IsTrue x.goes → IfOk (b.hold x.state) (IsAtLeast r))) (IsSteadyAfter next)
      (b.external elapsed bags s)
      (λ x. cond x.goes (state_with_hold b x.state) (Ok (x.state, Continues)))
      (both _ _ (b.external elapsed bags s) (keeps.external elapsed bags s fit come few) (responds elapsed bags s fit come few))
      (λ x h. goes_or_stays b x next x.goes refl ahead h.0 h.1)

  -- a component whose state fits and whose next time is m or later
  abbrev IsSteady : Component → Type 0
  IsSteady d = IsFrom m d.next × IsTrue (fits d.state)

  ended_steady : (tick : ℕ) (d : Component) (kind : Kind) (sent : List Counts) (x : Result (State × Option ℕ) Fault) →
      IsTrue (fits d.state) → IfOk x (λ p. IsFrom m p.1 × IsTrue (fits p.0)) → IsSteady (reaction_with tick d kind sent x).component
  ended_steady tick d kind sent (Err f) fit h = (tt, fit)
  ended_steady tick d kind sent (Ok p) fit h = h

  happens_steady : (b : Behaviour) (d : Component) (bags sent : List Counts) → is_imminent now d ≡ false → Keeps fits comes b →
      IsResponse fits comes r b → IsTrue (comes bags) → IsSteady d →
      IsSteady (reaction_after_output limit b now d bags (Ok sent)).component
  happens_steady b d bags sent waits keeps responds come steady =
      let Steady : State × Option ℕ → Type 0 = λ p. IsFrom m p.1 × IsTrue (fits p.0) in
      ended_steady (tick_of limit now) d (kind_of now d bags) sent _ steady.1
      (bind (λ x. IsTrue (are_few bags)) Steady (bags_or_flood bags) _ (few_or_flood bags (are_few bags)) (λ x few.
      bind (IsSteadyAfter d.next) Steady (transition_of limit b now d bags) _
      (rw waits (external_far b (tick_of limit now - d.last) bags d.state d.next keeps responds steady.1 come few steady.0)) (λ x after.
      bind (IsFrom m) Steady (next_of limit now d.next x.1) _ after.1 (λ next later. (later, after.0)))))

  reacts_or_not : (b : Behaviour) (d : Component) (bags : List Counts) (reacts : Bool) →
      (not d.quiet && (is_imminent now d || not (all_empty bags))) ≡ reacts → is_imminent now d ≡ false → Keeps fits comes b →
      IsResponse fits comes r b → (all_empty bags ≡ false → IsTrue (comes bags)) → IsSteady d →
      IsSteady (cond reacts (reaction_after_output limit b now d bags (emission b now d))
      (record { event = None; component = d })).component
  reacts_or_not b d bags true e waits keeps responds come steady =
      let silent : emission b now d ≡ Ok [] = rw waits refl in
      rw silent (happens_steady b d bags [] waits keeps responds
      (come (some_come d.quiet (is_imminent now d) (all_empty bags) e waits)) steady)
    where
      some_come : (q due empty : Bool) → (not q && (due || not empty)) ≡ true → due ≡ false → empty ≡ false
      some_come true due empty e w = absurd (cc)
      some_come false true empty e w = absurd (cc)
      some_come false false true e w = absurd (cc)
      some_come false false false e w = refl
  reacts_or_not b d bags false e waits keeps responds come steady = steady

not_due_before : (now m : ℕ) (next : Option ℕ) → now < m → IsFrom m next → is_at now next ≡ false
not_due_before now m None lt h = refl
not_due_before now m (Some n) lt h = grind (arith, nat_tests)

module _ (fits : ℕ → State → Bool) (comes : List Counts → Bool) (r : Option ℕ) (limit c m : ℕ) (far : IsFrom m (reach limit c r)) where
  abbrev AreSteady : ℕ → List Component → Type 0
  AreSteady k cs = AllFrom m cs × AllFit fits k cs

  reactions_steady : (k : ℕ) (bs : List Behaviour) (now : ℕ) (cs : List Component) (received : List (List Counts)) → c ≤ now → now < m →
      AllKeep fits comes k bs → AllRespond fits comes r k bs → AreSteady k cs → IsTrue (list_all comes received) →
      AreSteady k (map (λ (x : Reaction). x.component) (reactions limit bs now cs received))
  reactions_steady k [] now cs received le lt keeps responds steady come = (tt, tt)
  reactions_steady k (b ∷ bs) now [] received le lt keeps responds steady come = (tt, tt)
  reactions_steady k (b ∷ bs) now (d ∷ cs) received le lt keeps responds steady come =
      let bags = first_bags received in
      let here = reacts_or_not (fits k) comes r limit c now m le far b d bags
      (not d.quiet && (is_imminent now d || not (all_empty bags))) refl (not_due_before now m d.next lt steady.0.0) keeps.0 responds.0
      (first_comes comes received come) (steady.0.0, steady.1.0) in
      let rest = reactions_steady (k + 1) bs now cs (other_bags received) le lt keeps.1 responds.1 (steady.0.1, steady.1.1)
      (others_come comes received come) in
      ((here.0, rest.0), (here.1, rest.1))

-- where no component is due before m, none sends
all_wait : (now m : ℕ) (cs : List Component) → now < m → AllFrom m cs → IsTrue (none_imminent now cs)
all_wait now m [] lt h = refl
all_wait now m (d ∷ cs) lt h = rw (or_not d.quiet (is_imminent now d) (not_due_before now m d.next lt h.0)) (all_wait now m cs lt h.1)
  where
    or_not : (q due : Bool) → due ≡ false → (q || not due) ≡ true
    or_not true due e = refl
    or_not false true e = absurd (cc)
    or_not false false e = refl

parts_of : (m : ℕ) (a b : Option ℕ) → IsFrom m (earlier a b) → IsFrom m a × IsFrom m b
parts_of m None b h = (tt, h)
parts_of m (Some x) None h = (h, tt)
parts_of m (Some x) (Some y) h = (omega arith, omega arith)

module _ {I : Type 0} (fits : ℕ → State → Bool) (comes : List Counts → Bool) (r : Option ℕ) (limit : ℕ) (net : Network I) (inputs : ℕ → I)
    (k c m : ℕ) (waiting : IsWaiting fits comes r limit net inputs k c)
    (far : IsFrom m (earlier (least_next (components_at limit net inputs k)) (reach limit c r))) where
  ahead : IsFrom m (least_next (components_at limit net inputs k)) × IsFrom m (reach limit c r)
  ahead = parts_of m (least_next (components_at limit net inputs k)) (reach limit c r) far

  steady_at : (j : ℕ) → k ≤ j → j ≤ m → AreSteady fits comes r limit c m ahead.1 0 (components_at limit net inputs j)
  unfolding ahead
  steady_at zero le upto =
      let start : k ≡ zero = omega arith in
      subst (λ (j : ℕ). AreSteady fits comes r limit c m ahead.1 0 (components_at limit net inputs j)) start
      (all_from m (components_at limit net inputs k) ahead.0, waiting.fit)
  steady_at (suc j) le upto = elim (up_to_suc k j le) [
    | inl before ↦
        let cs = components_at limit net inputs j in
        let steady = steady_at j before (omega arith) in
        let still = all_wait j m cs upto steady.0 in
        let none = none_send net.behaviours j cs (matched_at limit net inputs waiting.ready j) still in
        elim (cases_lt j c) [
          | inl lt ↦ subst (AreSteady fits comes r limit c m ahead.1 0)
              (sym (idle_components limit net j (inputs j) cs (still, waiting.silent j before lt)
              (matched_at limit net inputs waiting.ready j))) steady
          | inr ge ↦ reactions_steady fits comes r limit c m ahead.1 0 net.behaviours j cs
              (net.arrives (emissions net.behaviours j cs) (inputs j)) ge upto waiting.keep waiting.respond steady
              (subst (λ (sent : List (List Counts)). IsTrue (list_all comes (net.arrives sent (inputs j)))) (sym none)
              (waiting.comes_later j ge))
        ]
    | inr same ↦ subst (λ (j : ℕ). AreSteady fits comes r limit c m ahead.1 0 (components_at limit net inputs j)) same
        (all_from m (components_at limit net inputs k) ahead.0, waiting.fit)
  ]

  pub sends_nothing_at : (j : ℕ) → k ≤ j → j < m → emissions_at limit net inputs j ≡ nothing_sent net
  sends_nothing_at j le lt =
      let cs = components_at limit net inputs j in
      let steady = steady_at j le (omega arith) in
      none_send net.behaviours j cs (matched_at limit net inputs waiting.ready j) (all_wait j m cs lt steady.0)

module _ {I : Type 0} (fits : ℕ → State → Bool) (comes : List Counts → Bool) (r : Option ℕ) (limit : ℕ) (net : Network I) (inputs : ℕ → I)
    (k c upto : ℕ) (waiting : IsWaiting fits comes r limit net inputs k c) where
  -- a run whose inputs are alike before c waits as well
  waits_alike : (others : ℕ → I) → ((j : ℕ) → j < c → ArriveAlike net (inputs j) (others j)) →
      ((j : ℕ) → c ≤ j → BringsOnly comes net (others j)) → IsWaiting fits comes r limit net others k c
  waits_alike others alike come = record {
    ready = waiting.ready;
    keep = waiting.keep;
    respond = waiting.respond;
    fit = subst (AllFit fits 0) (components_agree limit net inputs others k (λ j lt. alike j (omega (arith, waiting.order)))) waiting.fit;
    order = waiting.order;
    silent = λ j le lt. subst (λ (received : List (List Counts)). IsTrue (no_values received)) (alike j lt (nothing_sent net))
        (waiting.silent j le lt);
    comes_later = come;
  }

  pub decided_at : IsFrom upto (foreseen limit k (components_at limit net inputs k) c r) → IsDecided comes limit net inputs c upto
  decided_at far others alike come j lt = elim (cases_lt c j) [
    | inl past ↦ by_next_time (is_at k (least_next (components_at limit net inputs k))) refl past
    | inr known ↦ emissions_agree limit net inputs others j (λ i less. alike i (omega arith))
  ]
    where
      by_next_time : (now : Bool) → is_at k (least_next (components_at limit net inputs k)) ≡ now → c < j →
          emissions_at limit net inputs j ≡ emissions_at limit net others j
      by_next_time true e past = let soon : upto ≤ suc k = rw e at far in absurd (omega (arith, waiting.order))
      by_next_time false e past =
          let next : IsFrom upto (earlier (least_next (components_at limit net inputs k)) (reach limit c r)) = rw e at far in
          let same = components_agree limit net inputs others k (λ i less. alike i (omega (arith, waiting.order))) in
          let after : k ≤ j = omega (arith, waiting.order) in
          sends_nothing_at fits comes r limit net inputs k c upto waiting next j after lt
          ∙ sym (sends_nothing_at fits comes r limit net others k c upto (waits_alike others alike come)
          (subst (λ (cs : List Component). IsFrom upto (earlier (least_next cs) (reach limit c r))) same next) j after lt)

-- a promise is later than the rank at which the run stands
both_from : (n : ℕ) (a b : Option ℕ) → IsFrom n a → IsFrom n b → IsFrom n (earlier a b)
both_from n None b h k = k
both_from n (Some x) None h k = h
both_from n (Some x) (Some y) h k = omega arith

reach_later : (limit c : ℕ) (r : Option ℕ) → IsFrom (suc c) (reach limit c r)
reach_later limit c None = tt
reach_later limit c (Some zero) = omega arith
reach_later limit c (Some (suc r)) = let more : tick_of limit c + 1 ≤ tick_of limit c + suc r = omega arith in
    omega (arith, mul-le-mul_left (limit + 1) more, rank_at_time limit c, time_of_run limit c)

from_later : (k c : ℕ) (next : Option ℕ) → k ≤ c → IsFrom (suc c) next → IsFrom (suc k) next
from_later k c None le h = tt
from_later k c (Some n) le h = omega arith

past_now : (k : ℕ) (next : Option ℕ) → IsFrom k next → is_at k next ≡ false → IsFrom (suc k) next
past_now k None h e = tt
past_now k (Some n) h e = grind (arith, nat_tests)

pub foreseen_later : {I : Type 0} (limit : ℕ) (net : Network I) (inputs : ℕ → I) (r : Option ℕ) (k c : ℕ) → IsReady net → k ≤ c →
    IsFrom (suc k) (foreseen limit k (components_at limit net inputs k) c r)
foreseen_later limit net inputs r k c ready le = by_next (is_at k (least_next (components_at limit net inputs k))) refl
  where
    by_next : (now : Bool) → is_at k (least_next (components_at limit net inputs k)) ≡ now →
        IsFrom (suc k) (cond now (Some (suc k)) (earlier (least_next (components_at limit net inputs k)) (reach limit c r)))
    by_next true e = omega arith
    by_next false e = both_from (suc k) (least_next (components_at limit net inputs k)) (reach limit c r)
        (past_now k (least_next (components_at limit net inputs k)) (least_next_at limit net inputs ready k) e)
        (from_later k c (reach limit c r) le (reach_later limit c r))
