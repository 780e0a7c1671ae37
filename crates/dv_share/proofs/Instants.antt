-- The outcomes of the components that are touched are the instant of the network.
use Rattle.std.proofs.Common.{◌≡◌, inl, inr, ℕ, zero, suc, ◌+◌, ◌<◌, Bool, true, false, not, ◌&&◌, ◌||◌, cond, List, [], ◌∷◌}
use Rattle.std.proofs.Common.{◌++◌, length, get_or, map, Option, Some, None, Result, IsTrue, refl, sym, ap, ◌∙◌, subst, arith}
use Rattle.std.specs.List.{All, slice_get}
use Rattle.std.specs.Option.{unwrap_or}
use Rattle.std.proofs.lemmas.Option.{same_Some, slice_get-get_or, slice_get_within}
use Rattle.dv_bag.specs.Bag.{Counts}
use Rattle.dv_bag.specs.declared.fault.Fault.{Fault}
use Rattle.dv_bag.specs.declared.state.State.{State}
use Rattle.dv_devs.specs.Behaviour.{Behaviour, Component, Reaction, all_empty, emission, is_imminent, reaction, reaction_after_output}
use Rattle.dv_devs.specs.Network.{emissions, instant, reactions}
use Rattle.dv_react.specs.Components.{IsWaitOfRun, component_of, components_of}
use Rattle.dv_react.specs.Outcomes.{left_by, reaction_by, sent_of}
use Rattle.dv_react.specs.Outcomes.{Outcome}
use Rattle.dv_react.specs.Outcomes.{Nothing}
use Rattle.dv_react.specs.declared.running.Running.{Running}
use Rattle.dv_conservative.specs.Flat.{behaviours, network, numbers, received as received_by}
use Rattle.dv_conservative.specs.Links.{Delivery, carried, sent_of as sent_from}
use Rattle.dv_share.specs.Outcomes.{IsOutcome, IsOutcomeOf, behaviour_in}
use Rattle.dv_share.specs.Indices.{AreRising, found, is_in, indices_of}
use Rattle.dv_share.specs.Share.{AreAmong, AreComponents, AreEmitted, AreOutcomes, AreReceived, FitsAt, behaviour_of, coming}
use Rattle.dv_share.specs.Share.{flat_by, given_at}
use Rattle.dv_share.specs.Share.{inbox_of, left_from, member_by, numbers_of, outcome_at, reactions_by, sents_by}
use Rattle.dv_share.specs.declared.index.Indexed.{Indexed}
use Rattle.dv_share.specs.declared.tables.Member.{Member}
use Rattle.dv_share.specs.declared.tables.Tables.{Tables}
use Rattle.dv_share.proofs.Emissions.{all_map, map_all}
use Rattle.dv_share.proofs.Indices.{found_absent, found_all, found_none, some_or_none, yes_or_no}

false_true : false ≡ true → ⊥
false_true h = cc

-- where nothing comes and nothing is due, nothing happens
off : (q t u : Bool) → t ≡ false → u ≡ true → (not q && (t || not u)) ≡ false
off true t u h k = refl
off false t u h k = rw (h, k) refl

at_rest : (limit now : ℕ) (b : Behaviour) (c : Component) (bags : List Counts) → is_imminent now c ≡ false → IsTrue (all_empty bags) →
    reaction limit b now c bags ≡ record { event = None; component = c }
at_rest limit now b c bags late none =
    let rests : Reaction = record { event = None; component = c } in
    ap (λ (t : Bool). cond t (reaction_after_output limit b now c bags (emission b now c)) rests)
    (off c.quiet (is_imminent now c) (all_empty bags) late none)

-- what came of a component is the outcome at its index
pub outcome_one : {S : Type 0} (behaviour : S → Behaviour) (fits : S → State → Type 0) (t : Tables S) (now : ℕ) (rs : List Running)
    (es : List (Indexed (Result (List Counts) Fault))) (xs : List (Indexed (List Counts))) (x : Indexed (List Counts)) (r : Running)
    (o : Outcome) →
    slice_get rs x.index ≡ Some r → found x.index xs ≡ Some x.what → IsOutcomeOf behaviour fits t now r (given_at x.index es) x o →
    IsOutcome behaviour fits t now rs es xs x.index o
outcome_one behaviour fits t now rs es xs x r o at-r here is =
    let Reacts : Running → Member → List Counts → Type 0 = λ s m bags.
    reaction t.limit (behaviour_in behaviour t m) now (component_of t.limit s) bags
    ≡ reaction_by t.limit s (sent_of (given_at x.index es)) o in
    record {
      reacts = λ m s bags at-m at-s at-b.
          let same-r : r ≡ s = same_Some r s (sym at-r ∙ at-s) in
          let same-b : x.what ≡ bags = same_Some x.what bags (sym here ∙ at-b) in
          subst (λ (b : List Counts). Reacts s m b) same-b (subst (λ (s : Running). Reacts s m x.what) same-r (is.reacts m at-m));
      waits = λ s at-s. subst (λ (s : Running). IsWaitOfRun t.limit (left_by s o).wait) (same_Some r s (sym at-r ∙ at-s)) is.waits;
      fit = λ m s at-m at-s.
          subst (λ (s : Running). FitsAt fits t.models.items m.model (left_by s o).state) (same_Some r s (sym at-r ∙ at-s)) (is.fit m at-m);
    }

module _ {S : Type 0} (behaviour : S → Behaviour) (limit now : ℕ) (models : List S) (es : List (Indexed (Result (List Counts) Fault)))
    (os : List (Indexed Outcome))
    (ds : List Delivery) where
  reactions_are : (q : ℕ) (ms : List Member) (rs : List Running) → length rs ≡ length ms →
      ((p : ℕ) (m : Member) (r : Running) → slice_get ms p ≡ Some m → slice_get rs p ≡ Some r →
      reaction limit (behaviour_of behaviour (slice_get models m.model)) now (component_of limit r) (inbox_of m ds)
      ≡ reaction_by limit r (sent_of (given_at (q + p) es)) (outcome_at (q + p) os)) →
      reactions limit (behaviours (map (member_by behaviour limit models) ms)) now (components_of limit rs)
      (received_by (map (member_by behaviour limit models) ms) ds)
      ≡ reactions_by limit q rs es os
  reactions_are q [] [] count h = refl
  reactions_are q [] (r ∷ rs) count h = absurd (omega (arith, count))
  reactions_are q (m ∷ ms) [] count h = absurd (omega (arith, count))
  reactions_are q (m ∷ ms) (r ∷ rs) count h =
      let start : q + 0 ≡ q = omega arith in
      let here = h 0 m r refl refl ∙ ap (λ (i : ℕ). reaction_by limit r (sent_of (given_at i es)) (outcome_at i os)) start in
      let rest = reactions_are (suc q) ms rs (omega (arith, count))
      (λ p n s at-m at-r.
      let next : q + suc p ≡ suc q + p = omega arith in
      h (suc p) n s at-m at-r ∙ ap (λ (i : ℕ). reaction_by limit s (sent_of (given_at i es)) (outcome_at i os)) next) in
      ap
      (λ (x : Reaction).
      x ∷ reactions limit (behaviours (map (member_by behaviour limit models) ms)) now (components_of limit rs)
      (received_by (map (member_by behaviour limit models) ms) ds))
      here
      ∙ ap (λ (xs : List Reaction). reaction_by limit r (sent_of (given_at q es)) (outcome_at q os) ∷ xs) rest

same_numbers : {S : Type 0} (behaviour : S → Behaviour) (limit : ℕ) (models : List S) (ms : List Member)
    → numbers (map (member_by behaviour limit models) ms) ≡ numbers_of ms
same_numbers behaviour limit models [] = refl
same_numbers behaviour limit models (m ∷ ms) = ap (λ (ks : List ℕ). m.number ∷ ks) (same_numbers behaviour limit models ms)

module _ {S : Type 0} (behaviour : S → Behaviour) (fits : S → State → Type 0) (t : Tables S) (now : ℕ) (rs : List Running)
    (es : List (Indexed (Result (List Counts) Fault))) (xs : List (Indexed (List Counts))) (os : List (Indexed Outcome)) where
  -- what all components receive of what is sent and comes, by the tables
  pub received_of : (outside : List Counts) (ds : List Delivery) → AreEmitted behaviour t now rs es →
      (network (flat_by behaviour t)).arrives (emissions (network (flat_by behaviour t)).behaviours now (components_of t.limit rs))
      (outside, ds)
      ≡ received_by (flat_by behaviour t).members (coming t es outside ds)
  received_of outside ds given =
      ap (λ (sent : List (List Counts)). (network (flat_by behaviour t)).arrives sent (outside, ds)) given.sent
      ∙ ap
      (λ (ks : List ℕ).
      received_by (flat_by behaviour t).members
      (carried t.entrances (λ k. outside) ++ (carried t.links (sent_from ks (sents_by 0 t.members.items es)) ++ ds)))
      (same_numbers behaviour t.limit t.models.items t.members.items)

  pub instant_is : (outside : List Counts) (ds : List Delivery) → length rs ≡ length t.members.items → AreEmitted behaviour t now rs es →
      AreAmong (indices_of es) (indices_of xs) → AreReceived t.members.items (coming t es outside ds) xs → indices_of os ≡ indices_of xs →
      All (λ (o : Indexed Outcome). IsOutcome behaviour fits t now rs es xs o.index o.what) os →
      instant t.limit (network (flat_by behaviour t)) now (outside, ds) (components_of t.limit rs) ≡ reactions_by t.limit 0 rs es os
  instant_is outside ds count given among received same right =
      ap (reactions t.limit (behaviours (flat_by behaviour t).members) now (components_of t.limit rs)) (received_of outside ds given)
      ∙ reactions_are behaviour t.limit now t.models.items es os (coming t es outside ds) 0 t.members.items rs count
      (λ p m r at-m at-r.
      let start : p ≡ 0 + p = omega arith in
      at_index p m r at-m at-r ∙ ap (λ (i : ℕ). reaction_by t.limit r (sent_of (given_at i es)) (outcome_at i os)) start)
    where
      at_index : (p : ℕ) (m : Member) (r : Running) → slice_get t.members.items p ≡ Some m → slice_get rs p ≡ Some r →
          reaction t.limit (behaviour_in behaviour t m) now (component_of t.limit r) (inbox_of m (coming t es outside ds))
          ≡ reaction_by t.limit r (sent_of (given_at p es)) (outcome_at p os)
      at_index p m r at-m at-r = elim (some_or_none (found p os)) [
        | inl o ↦ elim (some_or_none (found p xs)) [
          | inl bags ↦
              let here : bags.0 ≡ inbox_of m (coming t es outside ds) =
              found_all (λ q b. (n : Member) → slice_get t.members.items q ≡ Some n → b ≡ inbox_of n (coming t es outside ds)) p bags.0 xs
              received.bags bags.1 m at-m in
              let is = found_all (IsOutcome behaviour fits t now rs es xs) p o.0 os right o.1 in
              ap (reaction t.limit (behaviour_in behaviour t m) now (component_of t.limit r)) (sym here)
              ∙ is.reacts m r bags.0 at-m at-r bags.1
              ∙ sym (ap (λ (x : Option Outcome). reaction_by t.limit r (sent_of (given_at p es)) (unwrap_or x Nothing)) o.1)
          | inr none ↦
              let out : is_in p (indices_of os) ≡ false = subst (λ (ps : List ℕ). is_in p ps ≡ false) (sym same) (found_none p xs none) in
              absurd (some_none o.0 (sym o.1 ∙ found_absent p os out))
        ]
        | inr none ↦
            let out : is_in p (indices_of xs) ≡ false = subst (λ (ps : List ℕ). is_in p ps ≡ false) same (found_none p os none) in
            let late : is_imminent now (component_of t.limit r) ≡ false = elim (yes_or_no (is_imminent now (component_of t.limit r))) [
              | inl soon ↦ absurd (false_true (sym out ∙ among p (given.imminent p r at-r soon)))
              | inr late ↦ late
            ] in
            at_rest t.limit now (behaviour_in behaviour t m) (component_of t.limit r) (inbox_of m (coming t es outside ds)) late
            (received.rest p m at-m out)
            ∙ sym (ap (λ (x : Option Outcome). reaction_by t.limit r (sent_of (given_at p es)) (unwrap_or x Nothing)) none)
      ]
        where
          some_none : (w : Outcome) → Some w ≡ None → ⊥
          some_none w h = cc

left_at : (q : ℕ) (rs : List Running) (os : List (Indexed Outcome)) (p : ℕ) (s : Running) → slice_get (left_from q rs os) p ≡ Some s →
    (r : Running) × (slice_get rs p ≡ Some r) × (left_by r (outcome_at (q + p) os) ≡ s)
left_at q [] os p s e = absurd (cc)
left_at q (r ∷ rs) os zero s e =
    let start : q + 0 ≡ q = omega arith in
    (r, refl, ap (λ (i : ℕ). left_by r (outcome_at i os)) start ∙ same_Some _ s e)
left_at q (r ∷ rs) os (suc p) s e =
    let rest = left_at (suc q) rs os p s e in
    let next : q + suc p ≡ suc q + p = omega arith in
    (rest.0, rest.1, ap (λ (i : ℕ). left_by rest.0 (outcome_at i os)) next ∙ rest.2)

left_length : (q : ℕ) (rs : List Running) (os : List (Indexed Outcome)) → length (left_from q rs os) ≡ length rs
left_length q [] os = refl
left_length q (r ∷ rs) os = ap suc (left_length (suc q) rs os)

module _ {S : Type 0} (behaviour : S → Behaviour) (fits : S → State → Type 0) (t : Tables S) (now : ℕ) (rs : List Running)
    (es : List (Indexed (Result (List Counts) Fault))) (xs : List (Indexed (List Counts))) (os : List (Indexed Outcome)) where
  outcome_keeps : (p : ℕ) (r : Running) → AreComponents fits t rs
      → All (λ (o : Indexed Outcome). IsOutcome behaviour fits t now rs es xs o.index o.what) os →
      slice_get rs p ≡ Some r → IsWaitOfRun t.limit (left_by r (outcome_at p os)).wait
      × ((m : Member) → slice_get t.members.items p ≡ Some m → FitsAt fits t.models.items m.model (left_by r (outcome_at p os)).state)
  outcome_keeps p r are right at = elim (some_or_none (found p os)) [
    | inl o ↦
        let is = found_all (IsOutcome behaviour fits t now rs es xs) p o.0 os right o.1 in
        let same : o.0 ≡ outcome_at p os = sym (ap (λ (x : Option Outcome). unwrap_or x Nothing) o.1) in (
          subst (λ (x : Outcome). IsWaitOfRun t.limit (left_by r x).wait) same (is.waits r at),
          λ m at-m. subst (λ (x : Outcome). FitsAt fits t.models.items m.model (left_by r x).state) same (is.fit m r at-m at),
        )
    | inr none ↦
        let same : Nothing ≡ outcome_at p os = sym (ap (λ (x : Option Outcome). unwrap_or x Nothing) none) in
        let lt = slice_get_within rs p r at in
        let here : get_or rs p r ≡ r = same_Some _ r (sym (slice_get-get_or rs p r lt) ∙ at) in (
          subst (λ (x : Outcome). IsWaitOfRun t.limit (left_by r x).wait) same
              (subst (λ (s : Running). IsWaitOfRun t.limit s.wait) here (are.waits p r lt)),
          λ m at-m. subst (λ (x : Outcome). FitsAt fits t.models.items m.model (left_by r x).state) same (are.fit p m r at-m at),
        )
  ]

  pub components_stay : AreComponents fits t rs → All (λ (o : Indexed Outcome). IsOutcome behaviour fits t now rs es xs o.index o.what) os →
      AreComponents fits t (left_from 0 rs os)
  components_stay are right = record {
    count = left_length 0 rs os ∙ are.count;
    waits = λ p d lt.
        let old = left_at 0 rs os p (get_or (left_from 0 rs os) p d) (slice_get-get_or (left_from 0 rs os) p d lt) in
        let keeps = outcome_keeps (0 + p) old.0 are right ((let start : 0 + p ≡ p = omega arith in ap (slice_get rs) start) ∙ old.1) in
        subst (λ (s : Running). IsWaitOfRun t.limit s.wait) old.2 keeps.0;
    fit = λ p m s at-m at.
        let old = left_at 0 rs os p s at in
        let start : 0 + p ≡ p = omega arith in
        let keeps = outcome_keeps (0 + p) old.0 are right (ap (slice_get rs) start ∙ old.1) in
        subst (λ (s : Running). FitsAt fits t.models.items m.model s.state) old.2 (keeps.1 m (ap (slice_get t.members.items) start ∙ at-m));
  }

-- what reactions leave are the components that outcomes leave
pub components_left : (limit q : ℕ) (rs : List Running) (es : List (Indexed (Result (List Counts) Fault))) (os : List (Indexed Outcome)) →
    map (λ (r : Reaction). r.component) (reactions_by limit q rs es os) ≡ components_of limit (left_from q rs os)
components_left limit q [] es os = refl
components_left limit q (r ∷ rs) es os = ap (λ (cs : List Component). component_of limit (left_by r (outcome_at q os)) ∷ cs)
    (components_left limit (suc q) rs es os)

-- outcomes at the indices where something comes or was emitted are the instant, and leave components
pub outcomes_are : {S : Type 0} (behaviour : S → Behaviour) (fits : S → State → Type 0) (t : Tables S) (now : ℕ) (rs : List Running)
    (es : List (Indexed (Result (List Counts) Fault))) (xs : List (Indexed (List Counts))) (os : List (Indexed Outcome))
    (outside : List Counts) (ds : List Delivery) → AreComponents fits t rs → AreEmitted behaviour t now rs es →
    AreAmong (indices_of es) (indices_of xs) → AreReceived t.members.items (coming t es outside ds) xs → indices_of os ≡ indices_of xs →
    All (λ (o : Indexed Outcome). IsOutcome behaviour fits t now rs es xs o.index o.what) os
    → AreOutcomes behaviour t now rs outside ds es os
outcomes_are behaviour fits t now rs es xs os outside ds are emitted among received same right =
    let below : All (λ p. p < length t.members.items) (indices_of os) =
    subst (λ (ps : List ℕ). All (λ p. p < length t.members.items) ps) (sym same)
    (map_all (λ (x : Indexed (List Counts)). x.index) (λ p. p < length t.members.items) xs received.indices.within) in
    let net = network (flat_by behaviour t) in
    let reacts : instant t.limit net now (outside, ds) (components_of t.limit rs) ≡ reactions_by t.limit 0 rs es os =
    instant_is behaviour fits t now rs es xs os outside ds are.count emitted among received same right in
    record {
      indices = record {
        rise = subst AreRising (sym same) received.indices.rise;
        within =
            subst (λ (n : ℕ). All (λ (o : Indexed Outcome). o.index < n) os) (sym are.count)
            (all_map (λ (o : Indexed Outcome). o.index) (λ p. p < length t.members.items) os below);
      };
      reactions = reacts;
      after = ap (map (λ (r : Reaction). r.component)) reacts ∙ components_left t.limit 0 rs es os;
    }
