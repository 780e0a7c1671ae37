-- States stay fit, and behaviours that agree at them run alike.
use Rattle.std.proofs.Common.{◌≡◌, ℕ, suc, zero, ◌+◌, ◌-◌, ◌<◌, Bool, true, false, not, ◌&&◌, ◌||◌, cond, List, [], ◌∷◌, map}
use Rattle.std.proofs.Common.{Option, Some, None, Result, Ok, Err, IfOk, IfSome, IsTrue, refl, ap, ◌∙◌, arith}
use Rattle.std.specs.List.{filter, list_all}
use Rattle.std.proofs.lemmas.Bool.{and_parts}
use Rattle.dv_time.specs.Time.{tick_of}
use Rattle.dv_bag.specs.Bag.{Counts}
use Rattle.dv_devs.specs.Behaviour.{Behaviour, Component, Reaction, Change, Hold, Continues, Begins, state_with_hold}
use Rattle.dv_devs.specs.Behaviour.{internal_of, external_of, confluent_of, transition_of, next_of, bags_or_flood}
use Rattle.dv_devs.specs.Behaviour.{reaction_with, reaction_after_output, reaction, emission, is_imminent, all_empty, kind_of}
use Rattle.dv_devs.specs.Behaviour.{are_few}
use Rattle.dv_bag.specs.Outcome.{◌>>=◌}
use Rattle.dv_devs.specs.Network.{Network, reactions, instant, components_after, components_at, emissions, emissions_at}
use Rattle.dv_devs.specs.Network.{first_bags, other_bags, sent_by, part_of_instant, entries_by, outer_from, trace_at}
use Rattle.dv_devs.specs.Network.{trace_before}
use Rattle.dv_bag.specs.declared.fault.Fault.{Fault}
use Rattle.dv_bag.specs.declared.fault.Fault.TheVariants.{Flood}
use Rattle.dv_bag.specs.declared.state.State.{State}
use Rattle.dv_bag.specs.declared.entry.Kind.{Kind}
use Rattle.dv_devs.specs.Fits.{AllAgree, AllFit, AllKeep, Agrees, AreAlike, Keeps, LeavesAlikeOf, OnlyArrives}
use Rattle.dv_devs.specs.Parts.{part_at, part_before, sent_among}
use Rattle.dv_bag.specs.Part.{PartOf}
use Rattle.dv_bag.specs.declared.entry.Entry.{Entry}
use Rattle.dv_devs.proofs.Parts.{all_same, part_of, same_part}
use Rattle.dv_devs.proofs.Results.{any, bind, bind_same}

few_or_flood : (bags : List Counts) (few : Bool) → IfOk (cond few (Ok bags) (Err Flood)) (λ x. IsTrue few)
few_or_flood bags true = refl
few_or_flood bags false = tt

module _ (fits : State → Bool) (comes : List Counts → Bool) where
  -- what reaches a transition: what may come, and no flood
  abbrev Reaches : List Counts → Type 0
  Reaches bags = IsTrue (comes bags) × IsTrue (are_few bags)

  abbrev FitsAfter : State × Hold → Type 0
  FitsAfter p = IsTrue (fits p.0)

  abbrev FitsChange : Change → Type 0
  FitsChange m = IsTrue (fits m.state)

  -- one behaviour
  hold_fits : (b : Behaviour) (s : State) → IsTrue (fits s) → IfOk (state_with_hold b s) FitsAfter
  hold_fits b s fit = bind (λ x. Unit {0}) FitsAfter (b.hold s) (λ ticks. Ok (s, Begins ticks)) (any (b.hold s)) (λ ticks u. fit)

  goes_or_stays : (b : Behaviour) (m : Change) (hold : Hold) (goes : Bool) → IsTrue (fits m.state) →
      IfOk (cond goes (state_with_hold b m.state) (Ok (m.state, hold))) FitsAfter
  goes_or_stays b m hold true fit = hold_fits b m.state fit
  goes_or_stays b m hold false fit = fit

  module _ (b : Behaviour) (keeps : Keeps fits comes b) (bags : List Counts) where
    internal_fits : (s : State) → IsTrue (fits s) → IfOk (internal_of b s) FitsAfter
    internal_fits s fit =
        bind FitsChange FitsAfter (b.internal s) (λ m. state_with_hold b m.state) (keeps.internal s fit) (λ m h. hold_fits b m.state h)

    external_fits : (elapsed : ℕ) (before : State × Hold) → Reaches bags → IsTrue (fits before.0) →
        IfOk (external_of b elapsed bags before) FitsAfter
    external_fits elapsed before come fit =
        bind FitsChange FitsAfter (b.external elapsed bags before.0) (λ m. cond m.goes (state_with_hold b m.state) (Ok (m.state, before.1)))
        (keeps.external elapsed bags before.0 fit come.0 come.1) (λ m h. goes_or_stays b m before.1 m.goes h)

    confluent_fits : (s : State) (rule : Option (Result Change Fault)) → Reaches bags → IsTrue (fits s) →
        IfSome rule (λ r. IfOk r FitsChange) → IfOk (confluent_of b bags s rule) FitsAfter
    confluent_fits s None come fit h =
        bind FitsAfter FitsAfter (internal_of b s) (external_of b 0 bags) (internal_fits s fit) (λ p k. external_fits 0 p come k)
    confluent_fits s (Some rule) come fit h =
        bind FitsChange FitsAfter rule (λ m. state_with_hold b m.state) h (λ m k. hold_fits b m.state k)

    by_kind : (limit now : ℕ) (c : Component) (imminent empty : Bool) → (empty ≡ false → Reaches bags) →
        (imminent ≡ false → empty ≡ false) → IsTrue (fits c.state) →
        IfOk (cond imminent (cond empty (internal_of b c.state) (confluent_of b bags c.state (b.confluent bags c.state)))
        (external_of b (tick_of limit now - c.last) bags (c.state, Continues))) FitsAfter
    by_kind limit now c true true come some fit = internal_fits c.state fit
    by_kind limit now c true false come some fit =
        confluent_fits c.state (b.confluent bags c.state) (come refl) fit (keeps.confluent bags c.state fit (come refl).0 (come refl).1)
    by_kind limit now c false empty come some fit = external_fits (tick_of limit now - c.last) (c.state, Continues) (come (some refl)) fit

    reaction_with_fits : (tick : ℕ) (c : Component) (kind : Kind) (sent : List Counts) (x : Result (State × Option ℕ) Fault) →
        IsTrue (fits c.state) → IfOk x (λ p. IsTrue (fits p.0)) → IsTrue (fits (reaction_with tick c kind sent x).component.state)
    reaction_with_fits tick c kind sent (Err f) fit h = fit
    reaction_with_fits tick c kind sent (Ok p) fit h = h

    output_fits : (limit now : ℕ) (c : Component) (sent : Result (List Counts) Fault) → (all_empty bags ≡ false → IsTrue (comes bags)) →
        (is_imminent now c ≡ false → all_empty bags ≡ false) → IsTrue (fits c.state) →
        IsTrue (fits (reaction_after_output limit b now c bags sent).component.state)
    output_fits limit now c (Err f) come some fit = fit
    output_fits limit now c (Ok sent) come some fit =
        let Fit : State × Option ℕ → Type 0 = λ p. IsTrue (fits p.0) in
        reaction_with_fits (tick_of limit now) c (kind_of now c bags) sent _ fit
        (bind (λ x. IsTrue (are_few bags)) Fit (bags_or_flood bags) _ (few_or_flood bags (are_few bags)) (λ x few.
        bind FitsAfter Fit (transition_of limit b now c bags) _
        (by_kind limit now c (is_imminent now c) (all_empty bags) (λ e. (come e, few)) some fit)
        (λ p h.
        bind (λ x. Unit {0}) Fit (next_of limit now c.next p.1) _ (any (next_of limit now c.next p.1)) (λ next v. h))))

    reacts_or_not : (limit now : ℕ) (c : Component) (reacts : Bool) →
        (not c.quiet && (is_imminent now c || not (all_empty bags))) ≡ reacts → (all_empty bags ≡ false → IsTrue (comes bags)) →
        IsTrue (fits c.state) →
        IsTrue (fits (cond reacts (reaction_after_output limit b now c bags (emission b now c))
        (record { event = None; component = c })).component.state)
    reacts_or_not limit now c true e come fit =
        output_fits limit now c (emission b now c) come (some c.quiet (is_imminent now c) (all_empty bags) e) fit
      where
        some : (q imminent empty : Bool) → (not q && (imminent || not empty)) ≡ true → imminent ≡ false → empty ≡ false
        some true imminent empty e w = absurd (cc)
        some false true empty e w = absurd (cc)
        some false false true e w = absurd (cc)
        some false false false e w = refl
    reacts_or_not limit now c false e come fit = fit

    pub reaction_fits : (limit now : ℕ) (c : Component) → (all_empty bags ≡ false → IsTrue (comes bags)) → IsTrue (fits c.state) →
        IsTrue (fits (reaction limit b now c bags).component.state)
    reaction_fits limit now c come fit =
        reacts_or_not limit now c (not c.quiet && (is_imminent now c || not (all_empty bags))) refl come fit

  -- two behaviours
  module _ (a b : Behaviour) (keeps : Keeps fits comes a) (agree : Agrees fits comes a b) (bags : List Counts) where
    hold_agree : (s : State) → IsTrue (fits s) → state_with_hold a s ≡ state_with_hold b s
    hold_agree s fit = ap (λ (r : Result (Option ℕ) Fault). r >>= λ ticks. Ok (s, Begins ticks)) (agree.hold s fit)

    internal_agree : (s : State) → IsTrue (fits s) → internal_of a s ≡ internal_of b s
    internal_agree s fit =
        bind_same FitsChange (a.internal s) (λ m. state_with_hold a m.state) (λ m. state_with_hold b m.state) (keeps.internal s fit)
        (λ m h. hold_agree m.state h)
        ∙ ap (λ (r : Result Change Fault). r >>= λ m. state_with_hold b m.state) (agree.internal s fit)

    external_agree : (elapsed : ℕ) (before : State × Hold) → Reaches bags → IsTrue (fits before.0) →
        external_of a elapsed bags before ≡ external_of b elapsed bags before
    external_agree elapsed before come fit =
        bind_same FitsChange (a.external elapsed bags before.0) (λ m. cond m.goes (state_with_hold a m.state) (Ok (m.state, before.1)))
        (λ m. cond m.goes (state_with_hold b m.state) (Ok (m.state, before.1))) (keeps.external elapsed bags before.0 fit come.0 come.1)
        (λ m h. ap (λ (r : Result (State × Hold) Fault). cond m.goes r (Ok (m.state, before.1))) (hold_agree m.state h))
        ∙ ap (λ (r : Result Change Fault). r >>= λ m. cond m.goes (state_with_hold b m.state) (Ok (m.state, before.1)))
        (agree.external elapsed bags before.0 fit come.0 come.1)

    same_rule : (s : State) (rule : Option (Result Change Fault)) → Reaches bags → IsTrue (fits s) →
        IfSome rule (λ r. IfOk r FitsChange) → confluent_of a bags s rule ≡ confluent_of b bags s rule
    same_rule s None come fit h =
        bind_same FitsAfter (internal_of a s) (external_of a 0 bags) (external_of b 0 bags) (internal_fits a keeps bags s fit)
        (λ p k. external_agree 0 p come k)
        ∙ ap (λ (r : Result (State × Hold) Fault). r >>= external_of b 0 bags) (internal_agree s fit)
    same_rule s (Some rule) come fit h =
        bind_same FitsChange rule (λ m. state_with_hold a m.state) (λ m. state_with_hold b m.state) h (λ m k. hold_agree m.state k)

    confluent_agree : (s : State) → Reaches bags → IsTrue (fits s) →
        confluent_of a bags s (a.confluent bags s) ≡ confluent_of b bags s (b.confluent bags s)
    confluent_agree s come fit =
        same_rule s (a.confluent bags s) come fit (keeps.confluent bags s fit come.0 come.1)
        ∙ ap (confluent_of b bags s) (agree.confluent bags s fit come.0 come.1)

    kind_agree : (limit now : ℕ) (c : Component) (imminent empty : Bool) → (empty ≡ false → Reaches bags) →
        (imminent ≡ false → empty ≡ false) → IsTrue (fits c.state)
        → cond imminent (cond empty (internal_of a c.state) (confluent_of a bags c.state (a.confluent bags c.state)))
        (external_of a (tick_of limit now - c.last) bags (c.state, Continues))
        ≡ cond imminent (cond empty (internal_of b c.state) (confluent_of b bags c.state (b.confluent bags c.state)))
        (external_of b (tick_of limit now - c.last) bags (c.state, Continues))
    kind_agree limit now c true true come some fit = internal_agree c.state fit
    kind_agree limit now c true false come some fit = confluent_agree c.state (come refl) fit
    kind_agree limit now c false empty come some fit =
        external_agree (tick_of limit now - c.last) (c.state, Continues) (come (some refl)) fit

    output_agree : (limit now : ℕ) (c : Component) (sent : Result (List Counts) Fault) → (all_empty bags ≡ false → IsTrue (comes bags)) →
        (is_imminent now c ≡ false → all_empty bags ≡ false) → IsTrue (fits c.state) →
        reaction_after_output limit a now c bags sent ≡ reaction_after_output limit b now c bags sent
    output_agree limit now c (Err f) come some fit = refl
    output_agree limit now c (Ok sent) come some fit =
        ap (reaction_with (tick_of limit now) c (kind_of now c bags) sent)
        (bind_same (λ x. IsTrue (are_few bags)) (bags_or_flood bags) _ _ (few_or_flood bags (are_few bags))
        (λ x few. ap (λ (r : Result (State × Hold) Fault). r >>= λ m. next_of limit now c.next m.1 >>= λ next. Ok (m.0, next))
        (kind_agree limit now c (is_imminent now c) (all_empty bags) (λ e. (come e, few)) some fit)))

    pub emission_agrees : (now : ℕ) (c : Component) → IsTrue (fits c.state) → emission a now c ≡ emission b now c
    emission_agrees now c fit = ap (λ (r : Result (List Counts) Fault). cond (is_imminent now c) r (Ok [])) (agree.output c.state fit)

    reacts_alike : (limit now : ℕ) (c : Component) (reacts : Bool) →
        (not c.quiet && (is_imminent now c || not (all_empty bags))) ≡ reacts → (all_empty bags ≡ false → IsTrue (comes bags)) →
        IsTrue (fits c.state)
        → cond reacts (reaction_after_output limit a now c bags (emission a now c)) (record { event = None; component = c }) ≡ cond reacts
        (reaction_after_output limit b now c bags (emission b now c)) (record { event = None; component = c })
    reacts_alike limit now c true e come fit =
        output_agree limit now c (emission a now c) come (some c.quiet (is_imminent now c) (all_empty bags) e) fit
        ∙ ap (reaction_after_output limit b now c bags) (emission_agrees now c fit)
      where
        some : (q imminent empty : Bool) → (not q && (imminent || not empty)) ≡ true → imminent ≡ false → empty ≡ false
        some true imminent empty e w = absurd (cc)
        some false true empty e w = absurd (cc)
        some false false true e w = absurd (cc)
        some false false false e w = refl
    reacts_alike limit now c false e come fit = refl

    pub reaction_agrees : (limit now : ℕ) (c : Component) → (all_empty bags ≡ false → IsTrue (comes bags)) → IsTrue (fits c.state) →
        reaction limit a now c bags ≡ reaction limit b now c bags
    reaction_agrees limit now c come fit =
        reacts_alike limit now c (not c.quiet && (is_imminent now c || not (all_empty bags))) refl come fit

pub first_comes : (comes : List Counts → Bool) (received : List (List Counts)) → IsTrue (list_all comes received) →
    all_empty (first_bags received) ≡ false → IsTrue (comes (first_bags received))
first_comes comes [] h e = absurd (cc)
first_comes comes (bags ∷ rest) h e = let parts = and_parts (comes bags) (list_all comes rest) h in parts.0

pub others_come : (comes : List Counts → Bool) (received : List (List Counts)) → IsTrue (list_all comes received) →
    IsTrue (list_all comes (other_bags received))
others_come comes [] h = refl
others_come comes (bags ∷ rest) h = let parts = and_parts (comes bags) (list_all comes rest) h in parts.1

module _ (fits : ℕ → State → Bool) (comes : List Counts → Bool) (limit : ℕ) where
  reactions_fit : (k : ℕ) (bs : List Behaviour) (now : ℕ) (cs : List Component) (received : List (List Counts)) → AllKeep fits comes k bs →
      IsTrue (list_all comes received) → AllFit fits k cs →
      AllFit fits k (map (λ (x : Reaction). x.component) (reactions limit bs now cs received))
  reactions_fit k [] now cs received keep come fit = tt
  reactions_fit k (b ∷ bs) now [] received keep come fit = tt
  reactions_fit k (b ∷ bs) now (c ∷ cs) received keep come fit = (
    reaction_fits (fits k) comes b keep.0 (first_bags received) limit now c (first_comes comes received come) fit.0,
    reactions_fit (k + 1) bs now cs (other_bags received) keep.1 (others_come comes received come) fit.1,
  )

  reactions_agree : (k : ℕ) («as» bs : List Behaviour) (now : ℕ) (cs : List Component) (received : List (List Counts)) →
      AllKeep fits comes k «as» → AllAgree fits comes k «as» bs → IsTrue (list_all comes received) → AllFit fits k cs →
      reactions limit «as» now cs received ≡ reactions limit bs now cs received
  reactions_agree k [] [] now cs received keep agree come fit = refl
  reactions_agree k [] (b ∷ bs) now cs received keep agree come fit = absurd agree
  reactions_agree k (a ∷ rest) [] now cs received keep agree come fit = absurd agree
  reactions_agree k (a ∷ rest) (b ∷ bs) now [] received keep agree come fit = refl
  reactions_agree k (a ∷ rest) (b ∷ bs) now (c ∷ cs) received keep agree come fit =
      ap (λ (r : Reaction). r ∷ reactions limit rest now cs (other_bags received))
      (reaction_agrees (fits k) comes a b keep.0 agree.0 (first_bags received) limit now c (first_comes comes received come) fit.0)
      ∙ ap (λ (rs : List Reaction). reaction limit b now c (first_bags received) ∷ rs)
      (reactions_agree (k + 1) rest bs now cs (other_bags received) keep.1 agree.1 (others_come comes received come) fit.1)

  emissions_agree : (k : ℕ) («as» bs : List Behaviour) (now : ℕ) (cs : List Component) → AllKeep fits comes k «as» →
      AllAgree fits comes k «as» bs → AllFit fits k cs → emissions «as» now cs ≡ emissions bs now cs
  emissions_agree k [] [] now cs keep agree fit = refl
  emissions_agree k [] (b ∷ bs) now cs keep agree fit = absurd agree
  emissions_agree k (a ∷ rest) [] now cs keep agree fit = absurd agree
  emissions_agree k (a ∷ rest) (b ∷ bs) now [] keep agree fit = refl
  emissions_agree k (a ∷ rest) (b ∷ bs) now (c ∷ cs) keep agree fit =
      ap (λ (r : Result (List Counts) Fault). sent_by c r ∷ emissions rest now cs)
      (emission_agrees (fits k) comes a b keep.0 agree.0 [] now c fit.0)
      ∙ ap (λ (es : List (List Counts)). sent_by c (emission b now c) ∷ es) (emissions_agree (k + 1) rest bs now cs keep.1 agree.1 fit.1)

module _ {I : Type 0} (fits : ℕ → State → Bool) (comes : List Counts → Bool) (limit : ℕ) (net : Network I) (inputs : ℕ → I) where
  pub states_fit : (n : ℕ) → AllKeep fits comes 0 net.behaviours → AllFit fits 0 net.start → OnlyArrives comes limit net inputs n →
      AllFit fits 0 (components_at limit net inputs n)
  states_fit zero keep fit come = fit
  states_fit (suc n) keep fit come =
      reactions_fit fits comes limit 0 net.behaviours n (components_at limit net inputs n)
      (net.arrives (emissions_at limit net inputs n) (inputs n)) keep (come n (omega arith))
      (states_fit n keep fit (λ j lt. come j (omega arith)))

  module _ (also : Network I) (alike : AreAlike fits comes limit net also inputs) where
    fit_at : (n : ℕ) → OnlyArrives comes limit net inputs n → AllFit fits 0 (components_at limit net inputs n)
    fit_at n come = states_fit n alike.keep alike.fit come

    sends_alike : (n : ℕ) → OnlyArrives comes limit net inputs n →
        emissions_at limit net inputs n ≡ emissions also.behaviours n (components_at limit net inputs n)
    sends_alike n come =
        emissions_agree fits comes limit 0 net.behaviours also.behaviours n (components_at limit net inputs n) alike.keep alike.agree
        (fit_at n come)

    instants_alike : (n : ℕ) → OnlyArrives comes limit net inputs (suc n) →
        instant limit net n (inputs n) (components_at limit net inputs n) ≡ instant limit also n (inputs n)
        (components_at limit net inputs n)
    instants_alike n come =
        let cs = components_at limit net inputs n in
        let earlier : OnlyArrives comes limit net inputs n = λ j lt. come j (omega arith) in
        reactions_agree fits comes limit 0 net.behaviours also.behaviours n cs
        (net.arrives (emissions_at limit net inputs n) (inputs n)) alike.keep alike.agree (come n (omega arith)) (fit_at n earlier)
        ∙ ap (reactions limit also.behaviours n cs) (alike.arrives n)
        ∙ ap (λ (sent : List (List Counts)). reactions limit also.behaviours n cs (also.arrives sent (inputs n))) (sends_alike n earlier)

    pub components_run_alike : (n : ℕ) → OnlyArrives comes limit net inputs n →
        components_at limit net inputs n ≡ components_at limit also inputs n
    components_run_alike zero come = alike.start
    components_run_alike (suc n) come =
        ap (map (λ (r : Reaction). r.component)) (instants_alike n come)
        ∙ ap (components_after limit also n (inputs n)) (components_run_alike n (λ j lt. come j (omega arith)))

    pub emissions_run_alike : (n : ℕ) → OnlyArrives comes limit net inputs n →
        emissions_at limit net inputs n ≡ emissions_at limit also inputs n
    emissions_run_alike n come = sends_alike n come ∙ ap (emissions also.behaviours n) (components_run_alike n come)

    traces_alike_at : (n : ℕ) → OnlyArrives comes limit net inputs (suc n) → trace_at limit net inputs n ≡ trace_at limit also inputs n
    traces_alike_at n come =
        let cs = components_at limit net inputs n in
        let earlier : OnlyArrives comes limit net inputs n = λ j lt. come j (omega arith) in
        ap (λ (rs : List Reaction). part_of (entries_by limit n net.numbers rs)
        (outer_from limit n 0 (net.leaves (emissions_at limit net inputs n)))) (instants_alike n come)
        ∙ ap (λ (ks : List ℕ). part_of (entries_by limit n ks (instant limit also n (inputs n) cs))
        (outer_from limit n 0 (net.leaves (emissions_at limit net inputs n)))) alike.numbers
        ∙ ap (λ (bags : List Counts). part_of (entries_by limit n also.numbers (instant limit also n (inputs n) cs))
        (outer_from limit n 0 bags)) (alike.leaves n ∙ ap also.leaves (sends_alike n earlier))
        ∙ ap (part_of_instant limit also n (inputs n)) (components_run_alike n earlier)

    pub traces_run_alike : (n : ℕ) → OnlyArrives comes limit net inputs n →
        trace_before limit net inputs n ≡ trace_before limit also inputs n
    traces_run_alike n come =
        all_same (trace_at limit net inputs) (trace_at limit also inputs) n (λ k lt. traces_alike_at k (λ j less. come j (omega arith)))

    module _ (who : ℕ → Bool) where
      parts_alike_at : (n : ℕ) → OnlyArrives comes limit net inputs (suc n) →
          LeavesAlikeOf who net also (emissions_at limit net inputs n) → part_at who limit net inputs n ≡ part_at who limit also inputs n
      parts_alike_at n come leaves =
          let earlier : OnlyArrives comes limit net inputs n = λ j lt. come j (omega arith) in
          let sent = emissions_at limit net inputs n in
          same_part (part_at who limit net inputs n).entries (part_at who limit also inputs n).entries
          (part_at who limit net inputs n).outer (part_at who limit also inputs n).outer
          (ap (λ (p : PartOf). filter (λ (e : Entry). who e.component) p.entries) (traces_alike_at n come))
          (ap (outer_from limit n 0)
          (leaves ∙ ap (λ (ks : List ℕ). also.leaves (sent_among who ks sent)) alike.numbers ∙ ap
          (λ (s : List (List Counts)). also.leaves (sent_among who also.numbers s)) (emissions_run_alike n earlier)))

      pub parts_run_alike : (n : ℕ) → OnlyArrives comes limit net inputs n →
          ((k : ℕ) → k < n → LeavesAlikeOf who net also (emissions_at limit net inputs k)) →
          part_before who limit net inputs n ≡ part_before who limit also inputs n
      parts_run_alike n come leaves =
          all_same (part_at who limit net inputs) (part_at who limit also inputs) n
          (λ k lt. parts_alike_at k (λ j less. come j (omega arith)) (leaves k lt))
