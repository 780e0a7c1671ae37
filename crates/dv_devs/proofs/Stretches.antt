-- Runs between one instant at which something happens and the next.
use Rattle.std.proofs.Common.{◌≡◌, ◌⊎◌, inl, inr, ℕ, suc, zero, ◌<◌, ◌≤◌, Bool, true, false, not, ◌&&◌, ◌||◌, min, List, []}
use Rattle.std.proofs.Common.{◌∷◌, ◌++◌, length, slice_get, Option, Some, None, Result, Ok, Err, IsTrue, append-nil, refl, sym}
use Rattle.std.proofs.Common.{ap, subst, ◌∙◌, arith}
use Rattle.std.proofs.lemmas.Bool.{cases_lt}
use Rattle.std.proofs.lemmas.Option.{none-some, same_Some}
use Rattle.std.proofs.lemmas.List.Elements.{Contains-append_right}
use Rattle.std.proofs.lemmas.Bool.Decides.{nat_tests}
use Rattle.dv_bag.specs.Bag.{Counts}
use Rattle.dv_devs.specs.Behaviour.{Behaviour, Component, reaction, reaction_after_output, emission, reaction_with, is_imminent}
use Rattle.dv_devs.specs.Behaviour.{is_at, kind_of, bags_or_flood, all_empty, transition_of, next_of}
use Rattle.dv_bag.specs.Outcome.{◌>>=◌}
use Rattle.dv_devs.specs.Network.{Network, reactions, components_after, components_at, trace_before, trace_at, part_of_instant}
use Rattle.dv_devs.specs.Network.{emissions, first_bags, other_bags, entry_of, entries_by}
use Rattle.dv_bag.specs.Part.{PartOf, nothing, joined}
use Rattle.dv_devs.specs.Idle.{none_imminent, IsIdle, BringsNothing, LeavesOnlyWhatIsSent}
use Rattle.dv_devs.specs.NextTimes.{AllFrom, AllQuietForGood, HasEntry, IsFrom, IsReady, least_next}
use Rattle.dv_bag.specs.declared.entry.Entry.{Entry}
use Rattle.dv_bag.specs.declared.entry.What.{What}
use Rattle.dv_bag.specs.declared.entry.What.TheVariants as what
use Rattle.dv_bag.specs.declared.entry.Kind.{Kind}
use Rattle.dv_bag.specs.declared.fault.Fault.{Fault}
use Rattle.dv_bag.specs.declared.state.State.{State}
use Rattle.dv_devs.proofs.Idle.{idle_components, idle_part}
use Rattle.dv_devs.proofs.NextTimes.{matched_at, quiet_at}
use Rattle.dv_time.specs.Time.{earlier, tick_of, time_of}

pub append_nothing : (p : PartOf) → joined p nothing ≡ p
append_nothing p =
    ap (λ es. let q : PartOf = record { entries = es; outer = p.outer ++ [] } in q) (append-nil p.entries)
    ∙ ap (λ os. let q : PartOf = record { entries = p.entries; outer = os } in q) (append-nil p.outer)

pub up_to_suc : (n m : ℕ) → n ≤ suc m → (n ≤ m) ⊎ (n ≡ suc m)
up_to_suc n m h = elim (cases_lt n (suc m)) [ inl lt ↦ inl (omega arith) | inr ge ↦ inr (omega arith) ]

module _ {I : Type 0} (limit : ℕ) (net : Network I) (inputs : ℕ → I) (ready : IsReady net) (n : ℕ) where
  -- no instant from n on and before m is one at which something happens to the components of n
  abbrev pub Rests : ℕ → Type 0
  Rests m = (k : ℕ) → n ≤ k → k < m → IsIdle net k (inputs k) (components_at limit net inputs n)

  pub resting_components : (m : ℕ) → n ≤ m → Rests m → components_at limit net inputs m ≡ components_at limit net inputs n
  resting_components zero le rests = let start : zero ≡ n = omega arith in ap (components_at limit net inputs) start
  resting_components (suc m) le rests = elim (up_to_suc n m le) [
    | inl before ↦
        ap (components_after limit net m (inputs m)) (resting_components m before (λ k low high. rests k low (omega arith)))
        ∙ idle_components limit net m (inputs m) (components_at limit net inputs n) (rests m before (omega arith))
        (matched_at limit net inputs ready n)
    | inr same ↦ ap (components_at limit net inputs) (sym same)
  ]

  pub resting_trace : LeavesOnlyWhatIsSent net → (m : ℕ) → n ≤ m → Rests m →
      trace_before limit net inputs m ≡ trace_before limit net inputs n
  resting_trace leaves zero le rests = let start : zero ≡ n = omega arith in ap (trace_before limit net inputs) start
  resting_trace leaves (suc m) le rests = elim (up_to_suc n m le) [
    | inl before ↦
        let same = resting_components m before (λ k low high. rests k low (omega arith)) in
        ap (λ cs. joined (trace_before limit net inputs m) (part_of_instant limit net m (inputs m) cs)) same
        ∙ ap (λ p. joined (trace_before limit net inputs m) p)
        (idle_part limit net m (inputs m) (components_at limit net inputs n) (rests m before (omega arith))
        (matched_at limit net inputs ready n) leaves)
        ∙ append_nothing (trace_before limit net inputs m)
        ∙ resting_trace leaves m before (λ k low high. rests k low (omega arith))
    | inr same ↦ ap (trace_before limit net inputs) (sym same)
  ]

-- before the least next time no component is imminent
at_most_earlier : (n : ℕ) (a b : Option ℕ) → IsFrom n (earlier a b) → IsFrom n a × IsFrom n b
at_most_earlier n None b h = (tt, h)
at_most_earlier n (Some x) None h = (h, tt)
at_most_earlier n (Some x) (Some y) h = (omega arith, omega arith)

pub all_from : (n : ℕ) (cs : List Component) → IsFrom n (least_next cs) → AllFrom n cs
all_from n [] h = tt
all_from n (c ∷ cs) h = let both = at_most_earlier n c.next (least_next cs) h in (both.0, all_from n cs both.1)

not_imminent_before : (k m : ℕ) (next : Option ℕ) → k < m → IsFrom m next → is_at k next ≡ false
not_imminent_before k m None lt h = refl
not_imminent_before k m (Some n) lt h = grind (arith, nat_tests)

or_not : (q d : Bool) → d ≡ false → (q || not d) ≡ true
or_not true d e = refl
or_not false true e = absurd (cc)
or_not false false e = refl

pub none_imminent_before : (k m : ℕ) (cs : List Component) → k < m → IsFrom m (least_next cs) → IsTrue (none_imminent k cs)
none_imminent_before k m [] lt h = refl
none_imminent_before k m (c ∷ cs) lt h =
    let both = at_most_earlier m c.next (least_next cs) h in
    rw (or_not c.quiet (is_imminent k c) (not_imminent_before k m c.next lt both.0)) (none_imminent_before k m cs lt both.1)

pub rests_until_next : {I : Type 0} (limit : ℕ) (net : Network I) (inputs : ℕ → I) (ready : IsReady net) (n m : ℕ) →
    IsFrom m (least_next (components_at limit net inputs n)) → ((k : ℕ) → n ≤ k → k < m → BringsNothing net (inputs k)) →
    Rests limit net inputs ready n m
rests_until_next limit net inputs ready n m next brings k low high =
    let cs = components_at limit net inputs n in
    let still = none_imminent_before k m cs high next in
    (still, brings k low high)

-- a component that is imminent has an entry
reaction_with_event : (tick : ℕ) (c : Component) (kind : Kind) (sent : List Counts) (r : Result (State × Option ℕ) Fault) →
    (e : What × List Counts) × ((reaction_with tick c kind sent r).event ≡ Some e)
reaction_with_event tick c kind sent (Err f) = ((what.Fault f, sent), refl)
reaction_with_event tick c kind sent (Ok p) = ((what.Transition kind p.0, sent), refl)

output_event : (limit : ℕ) (b : Behaviour) (now : ℕ) (c : Component) (bags : List Counts) (sent : Result (List Counts) Fault) →
    (e : What × List Counts) × ((reaction_after_output limit b now c bags sent).event ≡ Some e)
output_event limit b now c bags (Err f) = ((what.Fault f, []), refl)
output_event limit b now c bags (Ok sent) =
    reaction_with_event (tick_of limit now) c (kind_of now c bags) sent
    (bags_or_flood bags >>= λ x. transition_of limit b now c bags >>= λ m. next_of limit now c.next m.1 >>= λ next. Ok (m.0, next))

reacts : (q d e : Bool) → q ≡ false → d ≡ true → (not q && (d || not e)) ≡ true
reacts true d e h k = absurd (cc)
reacts false true e h k = refl
reacts false false e h k = absurd (cc)

imminent_event : (limit : ℕ) (b : Behaviour) (now : ℕ) (c : Component) (bags : List Counts) → c.quiet ≡ false → is_imminent now c ≡ true →
    (e : What × List Counts) × ((reaction limit b now c bags).event ≡ Some e)
imminent_event limit b now c bags awake imminent =
    rw (reacts c.quiet (is_imminent now c) (all_empty bags) awake imminent) (output_event limit b now c bags (emission b now c))

entry_here : (limit now k : ℕ) (event : Option (What × List Counts)) (rest : List Entry) (e : What × List Counts) → event ≡ Some e →
    HasEntry (entry_of limit now k event ++ rest) limit now k
entry_here limit now k event rest e same =
    let entry : Entry = record { time = time_of limit now; component = k; what = e.0; sent = e.1 } in
    subst (λ (event : Option (What × List Counts)). HasEntry (entry_of limit now k event ++ rest) limit now k) (sym same)
    (entry, (0, omega arith, refl), refl, refl)

pub imminent_has_entry :
    (limit : ℕ) (ks : List ℕ) (bs : List Behaviour) (now i k : ℕ) (cs : List Component) (received : List (List Counts)) (c : Component) →
    i < length bs → slice_get ks i ≡ Some k → slice_get cs i ≡ Some c → c.quiet ≡ false → is_imminent now c ≡ true →
    HasEntry (entries_by limit now ks (reactions limit bs now cs received)) limit now k
imminent_has_entry limit [] bs now i k cs received c within number there awake imminent = absurd (cc)
imminent_has_entry limit (j ∷ ks) [] now i k cs received c within number there awake imminent = absurd (omega arith)
imminent_has_entry limit (j ∷ ks) (b ∷ bs) now i k [] received c within number there awake imminent = absurd (cc)
imminent_has_entry limit (j ∷ ks) (b ∷ bs) now zero k (d ∷ cs) received c within number there awake imminent =
    let same : d ≡ c = same_Some d c there in
    let event =
    imminent_event limit b now d (first_bags received) (ap (λ (c : Component). c.quiet) same ∙ awake)
    (ap (is_imminent now) same ∙ imminent) in
    subst (HasEntry (entry_of limit now j (reaction limit b now d (first_bags received)).event ++ entries_by limit now ks
    (reactions limit bs now cs (other_bags received))) limit now) (same_Some j k number)
    (entry_here limit now j (reaction limit b now d (first_bags received)).event
    (entries_by limit now ks (reactions limit bs now cs (other_bags received))) event.0 event.1)
imminent_has_entry limit (j ∷ ks) (b ∷ bs) now (suc i) k (d ∷ cs) received c within number there awake imminent =
    let later = imminent_has_entry limit ks bs now i k cs (other_bags received) c (omega arith) number there awake imminent in (
      later.0,
      Contains-append_right (entry_of limit now j (reaction limit b now d (first_bags received)).event)
          (entries_by limit now ks (reactions limit bs now cs (other_bags received))) later.0 later.1,
      later.2,
      later.3,
    )

-- the component whose next time is the least
pub least_is_imminent : (m : ℕ) (cs : List Component) → least_next cs ≡ Some m →
    (i : ℕ) × (c : Component) × (i < length cs) × (slice_get cs i ≡ Some c) × (c.next ≡ Some m)
least_is_imminent m [] h = absurd (cc)
least_is_imminent m (c ∷ cs) h = step c.next (least_next cs) refl h (least_is_imminent m cs)
  where
    step : (a b : Option ℕ) → c.next ≡ a → earlier a b ≡ Some m →
        (b ≡ Some m → (i : ℕ) × (d : Component) × (i < length cs) × (slice_get cs i ≡ Some d) × (d.next ≡ Some m)) →
        (i : ℕ) × (d : Component) × (i < length (c ∷ cs)) × (slice_get (c ∷ cs) i ≡ Some d) × (d.next ≡ Some m)
    step None b e h rest = let later = rest h in (suc later.0, later.1, omega (arith, later.2), later.3, later.4)
    step (Some x) None e h rest = (0, c, omega arith, refl, e ∙ h)
    step (Some x) (Some y) e h rest =
        let least = same_Some (min x y) m h in
        elim (cases_lt y x) [
          | inl lt ↦ let second : y ≡ m =
              omega arith in let later = rest (ap (λ n. Some n) second) in (suc later.0, later.1, omega (arith, later.2), later.3, later.4)
          | inr ge ↦ let first : x ≡ m = omega arith in (0, c, omega arith, refl, e ∙ ap (λ n. Some n) first)
        ]

quiet_for_good : (cs : List Component) (i : ℕ) (c : Component) → AllQuietForGood cs → slice_get cs i ≡ Some c → IsTrue c.quiet →
    c.next ≡ None
quiet_for_good [] i c all there quiet = absurd (cc)
quiet_for_good (d ∷ cs) zero c all there quiet =
    let same : d ≡ c = same_Some d c there in
    let next = all.0 (ap (λ (c : Component). c.quiet) same ∙ quiet) in
    sym (ap (λ (c : Component). c.next) same) ∙ next
quiet_for_good (d ∷ cs) (suc i) c all there quiet = quiet_for_good cs i c all.1 there quiet

awake_when_imminent : (q : Bool) (m : ℕ) (next : Option ℕ) → next ≡ Some m → (IsTrue q → next ≡ None) → q ≡ false
awake_when_imminent true m next e h = absurd (none-some m (sym (h refl) ∙ e))
awake_when_imminent false m next e h = refl

imminent_at : (m : ℕ) (next : Option ℕ) → next ≡ Some m → is_at m next ≡ true
imminent_at m next e = rw e (grind (arith, nat_tests))

-- each index has a number
number_at : (ks : List ℕ) (i : ℕ) → i < length ks → (k : ℕ) × (slice_get ks i ≡ Some k)
number_at [] i h = absurd (omega arith)
number_at (k ∷ ks) zero h = (k, refl)
number_at (k ∷ ks) (suc i) h = number_at ks i (omega arith)

module _ {I : Type 0} where
  pub imminent_has_entry_at : (limit : ℕ) (net : Network I) (now : ℕ) (input : I) (cs : List Component) (i k : ℕ) (c : Component) →
      i < length net.behaviours → slice_get net.numbers i ≡ Some k → slice_get cs i ≡ Some c → c.quiet ≡ false → is_imminent now c ≡ true →
      HasEntry (part_of_instant limit net now input cs).entries limit now k
  imminent_has_entry_at limit net now input cs i k c =
      imminent_has_entry limit net.numbers net.behaviours now i k cs (net.arrives (emissions net.behaviours now cs) input) c

  pub entry_at_least_next : (limit : ℕ) (net : Network I) (inputs : ℕ → I) → IsReady net → (m : ℕ) →
      least_next (components_at limit net inputs m) ≡ Some m → (k : ℕ) × HasEntry (trace_at limit net inputs m).entries limit m k
  entry_at_least_next limit net inputs ready m least =
      let cs = components_at limit net inputs m in
      let first = least_is_imminent m cs least in
      let c = first.1 in
      let awake : c.quiet ≡ false =
      awake_when_imminent c.quiet m c.next first.4 (quiet_for_good cs first.0 c (quiet_at limit net inputs ready m) first.3) in
      let imminent : is_imminent m c ≡ true = imminent_at m c.next first.4 in
      let within : first.0 < length net.behaviours = omega (arith, first.2, matched_at limit net inputs ready m) in
      let number = number_at net.numbers first.0 (omega (arith, within, ready.numbered)) in
      (number.0, imminent_has_entry_at limit net m (inputs m) cs first.0 number.0 c within number.1 first.3 awake imminent)
