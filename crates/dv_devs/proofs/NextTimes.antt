-- Next times only rise, and a quiet component has none.
use Rattle.std.proofs.Common.{◌≡◌, ◌⊎◌, inl, inr, ℕ, suc, zero, ◌+◌, ◌-◌, Bool, true, false, not, ◌&&◌, ◌||◌, cond, nat_lt}
use Rattle.std.proofs.Common.{List, [], ◌∷◌, length, map, Option, Some, None, Result, Ok, Err, IfOk, IsTrue, refl, sym, ap}
use Rattle.std.proofs.Common.{subst, ◌∙◌, arith}
use Rattle.std.proofs.lemmas.Bool.Decides.{nat_tests}
use Rattle.dv_time.specs.Time.{IsOfRun, after, earlier, rank, tick_of, time_of}
use Rattle.dv_time.specs.declared.time.Time.{Time}
use Rattle.dv_bag.specs.Bag.{Counts}
use Rattle.dv_devs.specs.Behaviour.{Behaviour, Component, Reaction, Change, Hold, Continues, Begins, state_with_hold}
use Rattle.dv_devs.specs.Behaviour.{internal_of, external_of, confluent_of, transition_of, rank_or_fault, end_of_hold, next_of}
use Rattle.dv_devs.specs.Behaviour.{bags_or_flood, reaction_with, reaction_after_output, reaction, emission, is_imminent, is_at}
use Rattle.dv_devs.specs.Behaviour.{all_empty, kind_of}
use Rattle.dv_devs.specs.Network.{Network, reactions, components_after, components_at, emissions, first_bags, other_bags}
use Rattle.dv_devs.specs.NextTimes.{AllFrom, AllQuietForGood, IsFrom, IsReady, least_next}
use Rattle.dv_bag.specs.declared.fault.Fault.{Fault}
use Rattle.dv_bag.specs.declared.state.State.{State}
use Rattle.dv_bag.specs.declared.entry.Kind.{Kind}
use Rattle.dv_devs.proofs.Results.{any, bind}

-- a hold that begins at a time of the run ends later
ends_later_at_once : (limit : ℕ) (t : Time) (more : Bool) →
    IfOk (rank_or_fault limit (cond more (Ok (record { tick = t.tick; micro = t.micro + 1 })) (Err (record {}))))
    (IsFrom (suc (rank limit t)))
ends_later_at_once limit t true = omega arith
ends_later_at_once limit t false = tt

ends_later : (limit : ℕ) (t : Time) (hold : ℕ) → IsOfRun limit t →
    IfOk (rank_or_fault limit (after limit t hold)) (IsFrom (suc (rank limit t)))
ends_later limit t zero h = ends_later_at_once limit t (nat_lt t.micro limit)
ends_later limit t (suc hold) h = omega arith

pub time_of_run : (limit n : ℕ) → IsOfRun limit (time_of limit n)
time_of_run limit n = omega arith

pub rank_at_time : (limit n : ℕ) → rank limit (time_of limit n) ≡ n
rank_at_time limit n = omega arith

pub begun_is_later : (limit now : ℕ) (ticks : Option ℕ) → IfOk (end_of_hold limit now ticks) (IsFrom (suc now))
begun_is_later limit now None = tt
begun_is_later limit now (Some hold) =
    subst (λ (n : ℕ). IfOk (rank_or_fault limit (after limit (time_of limit now) hold)) (IsFrom (suc n))) (rank_at_time limit now)
    (ends_later limit (time_of limit now) hold (time_of_run limit now))

module _ (limit now : ℕ) (next : Option ℕ) where
  -- the hold after a transition ends later than now
  abbrev IsLater : State × Hold → Type 0
  IsLater m = IfOk (next_of limit now next m.1) (IsFrom (suc now))

  hold_is_later : (b : Behaviour) (s : State) → IfOk (state_with_hold b s) IsLater
  hold_is_later b s =
      bind (λ x. Unit {0}) IsLater (b.hold s) (λ ticks. Ok (s, Begins ticks)) (any (b.hold s)) (λ ticks h. begun_is_later limit now ticks)

  internal_is_later : (b : Behaviour) (s : State) → IfOk (internal_of b s) IsLater
  internal_is_later b s =
      bind (λ x. Unit {0}) IsLater (b.internal s) (λ m. state_with_hold b m.state) (any (b.internal s)) (λ m h. hold_is_later b m.state)

  goes_or_stays : (b : Behaviour) (m : Change) (hold : Hold) (goes : Bool) → IfOk (next_of limit now next hold) (IsFrom (suc now)) →
      IfOk (cond goes (state_with_hold b m.state) (Ok (m.state, hold))) IsLater
  goes_or_stays b m hold true h = hold_is_later b m.state
  goes_or_stays b m hold false h = h

  external_is_later : (b : Behaviour) (elapsed : ℕ) (bags : List Counts) (before : State × Hold) → IsLater before →
      IfOk (external_of b elapsed bags before) IsLater
  external_is_later b elapsed bags before h =
      bind (λ x. Unit {0}) IsLater (b.external elapsed bags before.0)
      (λ m. cond m.goes (state_with_hold b m.state) (Ok (m.state, before.1))) (any (b.external elapsed bags before.0))
      (λ m k. goes_or_stays b m before.1 m.goes h)

  confluent_is_later : (b : Behaviour) (bags : List Counts) (s : State) (rule : Option (Result Change Fault)) →
      IfOk (confluent_of b bags s rule) IsLater
  confluent_is_later b bags s None =
      bind IsLater IsLater (internal_of b s) (external_of b 0 bags) (internal_is_later b s) (λ m h. external_is_later b 0 bags m h)
  confluent_is_later b bags s (Some rule) =
      bind (λ x. Unit {0}) IsLater rule (λ m. state_with_hold b m.state) (any rule) (λ m h. hold_is_later b m.state)

  next_is_later : (b : Behaviour) (c : Component) (bags : List Counts) (imminent empty : Bool) → c.next ≡ next →
      (imminent ≡ false → IsFrom (suc now) next) →
      IfOk (cond imminent (cond empty (internal_of b c.state) (confluent_of b bags c.state (b.confluent bags c.state)))
      (external_of b (tick_of limit now - c.last) bags (c.state, Continues))) IsLater
  next_is_later b c bags true true e h = internal_is_later b c.state
  next_is_later b c bags true false e h = confluent_is_later b bags c.state (b.confluent bags c.state)
  next_is_later b c bags false empty e h = external_is_later b (tick_of limit now - c.last) bags (c.state, Continues) (h refl)

-- a component after an instant: its next time is later, and it has none if it is quiet
abbrev IsAhead : ℕ → Component → Type 0
IsAhead n c = IsFrom n c.next × (IsTrue c.quiet → c.next ≡ None)

reaction_with_ahead : (tick now : ℕ) (c : Component) (kind : Kind) (sent : List Counts) (r : Result (State × Option ℕ) Fault) →
    IfOk r (λ p. IsFrom (suc now) p.1) → IsAhead (suc now) (reaction_with tick c kind sent r).component
reaction_with_ahead tick now c kind sent (Err f) h = (tt, λ e. refl)
reaction_with_ahead tick now c kind sent (Ok p) h = (h, λ e. absurd (cc))

output_ahead : (limit : ℕ) (b : Behaviour) (now : ℕ) (c : Component) (bags : List Counts) (sent : Result (List Counts) Fault) →
    (is_imminent now c ≡ false → IsFrom (suc now) c.next) → IsAhead (suc now) (reaction_after_output limit b now c bags sent).component
output_ahead limit b now c bags (Err f) h = (tt, λ e. refl)
output_ahead limit b now c bags (Ok sent) h =
    let Ahead : State × Option ℕ → Type 0 = λ p. IsFrom (suc now) p.1 in
    reaction_with_ahead (tick_of limit now) now c (kind_of now c bags) sent _
    (bind (λ x. Unit {0}) Ahead (bags_or_flood bags) _ (any (bags_or_flood bags)) (λ x u.
    bind (IsLater limit now c.next) Ahead (transition_of limit b now c bags) _
    (next_is_later limit now c.next b c bags (is_imminent now c) (all_empty bags) refl h) (λ m later.
    bind (IsFrom (suc now)) Ahead (next_of limit now c.next m.1) _ later (λ next k. k))))

not_imminent_is_later : (now : ℕ) (next : Option ℕ) → IsFrom now next → is_at now next ≡ false → IsFrom (suc now) next
not_imminent_is_later now None h e = tt
not_imminent_is_later now (Some n) h e = grind (arith, nat_tests)

quiet_or_waits : (q d e : Bool) → (not q && (d || not e)) ≡ false → (q ≡ true) ⊎ (d ≡ false)
quiet_or_waits true d e h = inl refl
quiet_or_waits false true e h = absurd (cc)
quiet_or_waits false false e h = inr refl

reacts_or_not : (limit : ℕ) (b : Behaviour) (now : ℕ) (c : Component) (bags : List Counts) (reacts : Bool) →
    (not c.quiet && (is_imminent now c || not (all_empty bags))) ≡ reacts → IsAhead now c →
    IsAhead (suc now) (cond reacts (reaction_after_output limit b now c bags (emission b now c))
    (record { event = None; component = c })).component
reacts_or_not limit b now c bags true e h = output_ahead limit b now c bags (emission b now c) (not_imminent_is_later now c.next h.0)
reacts_or_not limit b now c bags false e h = (
  elim (quiet_or_waits c.quiet (is_imminent now c) (all_empty bags) e) [
    | inl q ↦ subst (IsFrom (suc now)) (sym (h.1 q)) tt
    | inr d ↦ not_imminent_is_later now c.next h.0 d
  ],
  h.1,
)

reaction_ahead : (limit : ℕ) (b : Behaviour) (now : ℕ) (c : Component) (bags : List Counts) → IsAhead now c →
    IsAhead (suc now) (reaction limit b now c bags).component
reaction_ahead limit b now c bags h = reacts_or_not limit b now c bags (not c.quiet && (is_imminent now c || not (all_empty bags))) refl h

reactions_ahead : (limit : ℕ) (bs : List Behaviour) (now : ℕ) (cs : List Component) (received : List (List Counts)) → AllFrom now cs →
    AllQuietForGood cs →
    AllFrom (suc now) (map (λ (r : Reaction). r.component) (reactions limit bs now cs received)) × AllQuietForGood
    (map (λ (r : Reaction). r.component) (reactions limit bs now cs received))
reactions_ahead limit [] now cs received h q = (tt, tt)
reactions_ahead limit (b ∷ bs) now [] received h q = (tt, tt)
reactions_ahead limit (b ∷ bs) now (c ∷ cs) received h q =
    let here = reaction_ahead limit b now c (first_bags received) (h.0, q.0) in
    let rest = reactions_ahead limit bs now cs (other_bags received) h.1 q.1 in
    ((here.0, rest.0), (here.1, rest.1))

reactions_matched : (limit : ℕ) (bs : List Behaviour) (now : ℕ) (cs : List Component) (received : List (List Counts)) →
    length bs ≡ length cs → length (map (λ (r : Reaction). r.component) (reactions limit bs now cs received)) ≡ length cs
reactions_matched limit [] now [] received e = refl
reactions_matched limit [] now (c ∷ cs) received e = absurd (omega arith)
reactions_matched limit (b ∷ bs) now [] received e = refl
reactions_matched limit (b ∷ bs) now (c ∷ cs) received e = ap suc (reactions_matched limit bs now cs (other_bags received) (omega arith))

module _ {I : Type 0} (limit : ℕ) (net : Network I) (now : ℕ) (input : I) (cs : List Component) where
  pub instant_rises : AllFrom now cs → AllQuietForGood cs → AllFrom (suc now) (components_after limit net now input cs)
  instant_rises h q =
      let ahead = reactions_ahead limit net.behaviours now cs (net.arrives (emissions net.behaviours now cs) input) h q in ahead.0

  pub instant_quiet : AllFrom now cs → AllQuietForGood cs → AllQuietForGood (components_after limit net now input cs)
  instant_quiet h q =
      let ahead = reactions_ahead limit net.behaviours now cs (net.arrives (emissions net.behaviours now cs) input) h q in ahead.1

  pub instant_matched : length net.behaviours ≡ length cs → length (components_after limit net now input cs) ≡ length cs
  instant_matched e = reactions_matched limit net.behaviours now cs (net.arrives (emissions net.behaviours now cs) input) e

earlier_from : (n : ℕ) (a b : Option ℕ) → IsFrom n a → IsFrom n b → IsFrom n (earlier a b)
earlier_from n None b h k = k
earlier_from n (Some x) None h k = h
earlier_from n (Some x) (Some y) h k = omega arith

pub least_from : (n : ℕ) (cs : List Component) → AllFrom n cs → IsFrom n (least_next cs)
least_from n [] h = tt
least_from n (c ∷ cs) h = earlier_from n c.next (least_next cs) h.0 (least_from n cs h.1)

from_0 : (cs : List Component) → AllFrom 0 cs
from_0 [] = tt
from_0 (c ∷ cs) = (at_0 c.next, from_0 cs)
  where
    at_0 : (next : Option ℕ) → IsFrom 0 next
    at_0 None = tt
    at_0 (Some n) = omega arith

module _ {I : Type 0} (limit : ℕ) (net : Network I) (inputs : ℕ → I) (ready : IsReady net) where
  ahead_at : (n : ℕ) → AllFrom n (components_at limit net inputs n) × AllQuietForGood (components_at limit net inputs n)
  ahead_at zero = (from_0 net.start, ready.quiet)
  ahead_at (suc n) =
      let before = ahead_at n in (
        instant_rises limit net n (inputs n) (components_at limit net inputs n) before.0 before.1,
        instant_quiet limit net n (inputs n)
            (components_at limit net inputs n) before.0 before.1,
      )

  -- every next time is at this rank or later
  pub next_times_at : (n : ℕ) → AllFrom n (components_at limit net inputs n)
  next_times_at n = let ahead = ahead_at n in ahead.0

  pub least_next_at : (n : ℕ) → IsFrom n (least_next (components_at limit net inputs n))
  least_next_at n = least_from n (components_at limit net inputs n) (next_times_at n)

  pub quiet_at : (n : ℕ) → AllQuietForGood (components_at limit net inputs n)
  quiet_at n = let ahead = ahead_at n in ahead.1

  pub matched_at : (n : ℕ) → length net.behaviours ≡ length (components_at limit net inputs n)
  matched_at zero = ready.matched
  matched_at (suc n) =
      let before = matched_at n in before ∙ sym (instant_matched limit net n (inputs n) (components_at limit net inputs n) before)
