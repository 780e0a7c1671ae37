-- A component of a text is sound.
use Rattle.std.proofs.Common.{◌≡◌, ℕ, Bool, true, false, ◌&&◌, ◌==◌, cond, nat_le, List, [], ◌∷◌, Option, Some, None, Result}
use Rattle.std.proofs.Common.{Ok, Err, IfOk, IfSome, IsTrue, refl, sym, subst}
use Rattle.std.specs.Prelude.{option_map}
use Rattle.std.specs.Option.{unwrap_or}
use Rattle.std.proofs.lemmas.Bool.{and_parts}
use Rattle.std.proofs.lemmas.List.Elements.{All-cons, All-nil}
use Rattle.dv_syntax.specs.Trees.{AtomicTree, RuleTree, Statements, Done}
use Rattle.dv_syntax.specs.declared.tree.RuleSort.{RuleSort}
use Rattle.dv_syntax.specs.declared.tree.RuleSort.TheVariants.{Output, Internal, External, Confluent}
use Rattle.dv_bag.specs.Arrivals.{AreFew, Arrivals, nothing_arrived}
use Rattle.dv_bag.specs.Bag.{Counts}
use Rattle.dv_bag.specs.Collections.{count_in}
use Rattle.dv_bag.specs.Numbers.{HoldsNumbers, IsOfNumbers as HoldsOneOfNumbers}
use Rattle.dv_bag.specs.Outcome.{◌>>=◌}
use Rattle.dv_bag.specs.Limits.{greatest_count}
use Rattle.dv_bag.specs.declared.fault.Fault.{Fault}
use Rattle.dv_bag.specs.declared.state.Datum.{Datum}
use Rattle.dv_bag.specs.declared.state.Datum.TheVariants as datum
use Rattle.dv_bag.specs.declared.state.State.{State}
use Rattle.dv_bag.specs.declared.state.Effect.{Effect}
use Rattle.dv_devs.specs.Behaviour.{Behaviour, Change, are_few, state_by_goto}
use Rattle.dv_devs.specs.Fits.{Agrees, Keeps}
use Rattle.dv_eval.specs.Meaning.{effect_of}
use Rattle.dv_eval.specs.Scope.{phase_name, rule_body, rule_of, same_sort, scope_of, start_state}
use Rattle.law_accepted.specs.Fitting.{fits}
use Rattle.dv_gen.specs.ModelCode.{IsCompilable, phase_codes}
use Rattle.dv_bound.specs.Response.{IsNotBelow, response_of}
use Rattle.dv_plain.specs.Source.{behaviour_of, change_by, first_component}
use Rattle.law_compiled.specs.Behaviours.{behaviour_by}
use Rattle.dv_conservative.specs.Promise.{IsAtLeast, IsResponse}
use Rattle.dv_conservative.specs.Sound.{IsSound, are_of_numbers}
use Rattle.law_sound.specs.Kept.{IsOfNumbers, are_kept, fits_kept, has_numbers, is_kept, name_numbers, rules_name_numbers}
use Rattle.law_sound.specs.Members.{member_of}
use Rattle.law_sound.proofs.Collections.{numbers_in}
use Rattle.law_sound.proofs.Rules.{effect_kept, effect_sends}
use Rattle.law_sound.proofs.Values.{few_here}

both_true : (a b : Bool) → a ≡ true → b ≡ true → (a && b) ≡ true
both_true a b h k = rw (h, k) refl

-- states that hold numbers, in the words of responses
datum_held : (d : Datum) → is_kept d ≡ true → HoldsOneOfNumbers d
datum_held (datum.Number n) h = h
datum_held (datum.Flag b) h = tt
datum_held (datum.Held c) h = let parts = and_parts (has_numbers c) (nat_le (count_in c) greatest_count) h in numbers_in c parts.0

pub all_held : (ds : List Datum) → are_kept ds ≡ true → HoldsNumbers ds
all_held [] h = All-nil HoldsOneOfNumbers
all_held (d ∷ ds) h =
    let parts = and_parts (is_kept d) (are_kept ds) h in All-cons HoldsOneOfNumbers d ds (datum_held d parts.0) (all_held ds parts.1)

-- the statements of a rule
small_rule : (sort : RuleSort) (phase : ℕ) (rules : List RuleTree) → rules_name_numbers rules ≡ true →
    IfSome (rule_of sort phase rules) (λ body. IsTrue (name_numbers body))
small_rule sort phase [] h = tt
small_rule sort phase (r ∷ rules) h =
    let parts = and_parts (name_numbers r.body) (rules_name_numbers rules) h in
    by_test (same_sort r.sort sort && (r.phase.number == phase)) parts.0 (small_rule sort phase rules parts.1)
  where
    by_test : (t : Bool) → name_numbers r.body ≡ true → IfSome (rule_of sort phase rules) (λ body. IsTrue (name_numbers body)) →
        IfSome (cond t (Some r.body) (rule_of sort phase rules)) (λ body. IsTrue (name_numbers body))
    by_test true first rest = first
    by_test false first rest = rest

small_body : (sort : RuleSort) (phase : ℕ) (rules : List RuleTree) → rules_name_numbers rules ≡ true →
    IsTrue (name_numbers (rule_body sort phase rules))
small_body sort phase rules h = by_rule (rule_of sort phase rules) (small_rule sort phase rules h)
  where
    by_rule : (o : Option Statements) → IfSome o (λ body. IsTrue (name_numbers body)) →
        IsTrue (name_numbers (unwrap_or o Done))
    by_rule None h = refl
    by_rule (Some body) h = h

-- what a rule leaves
change_kept : (r : Result Effect Fault) → IfOk r (λ (e : Effect). IsTrue (are_kept e.state.variables)) →
    IfOk (r >>= λ e. Ok (state_by_goto e.state e.goto)) (λ (c : Change). IsTrue (are_kept c.state.variables))
change_kept (Ok e) h = by_goto e.goto
  where
    by_goto : (o : Option ℕ) → IsTrue (are_kept (state_by_goto e.state o).state.variables)
    by_goto None = h
    by_goto (Some phase) = h
change_kept (Err f) h = tt

sent_kept : (r : Result Effect Fault) → IfOk r (λ (e : Effect). IsTrue (are_of_numbers e.sent)) →
    IfOk (r >>= λ e. Ok e.sent) (λ bags. IsTrue (are_of_numbers bags))
sent_kept (Ok e) h = h
sent_kept (Err f) h = tt

join : {A : Type 0} (P Q R : A → Type 0) (r : Result A Fault) → IfOk r P → IfOk r Q → ((x : A) → P x → Q x → R x) → IfOk r R
join P Q R (Ok x) h k both = both x h k
join P Q R (Err f) h k both = tt

at_ok : {A : Type 0} (P : A → Type 0) (r : Result A Fault) (x : A) → r ≡ Ok x → IfOk r P → P x
at_ok P (Ok y) x e h = let same : y ≡ x = cc in subst P same h
at_ok P (Err f) x e h = absurd (cc)

not_below : (r : Option ℕ) (ticks : ℕ) → IsNotBelow r ticks → IsAtLeast r (Some ticks)
not_below None ticks h = h
not_below (Some r) ticks h = h

state_first : (s : State) (r : Result (Option ℕ) Fault) → (first_component s r).state ≡ s
state_first s (Ok next) = refl
state_first s (Err f) = refl

quiet_first : (s : State) (r : Result (Option ℕ) Fault) → IsTrue (first_component s r).quiet → (first_component s r).next ≡ None
quiet_first s (Ok next) h = absurd (cc)
quiet_first s (Err f) h = refl

-- what agrees with a behaviour that keeps to states keeps to them
pub keeps_alike : (fit : State → Bool) (comes : List Counts → Bool) (a b : Behaviour) → Keeps fit comes a → Agrees fit comes a b →
    Keeps fit comes b
keeps_alike fit comes a b keeps agrees = record {
  internal = λ s h. subst (λ (r : Result Change Fault). IfOk r (λ (c : Change). IsTrue (fit c.state))) (agrees.internal s h)
      (keeps.internal s h);
  external = λ elapsed bags s h come few.
      subst (λ (r : Result Change Fault). IfOk r (λ (c : Change). IsTrue (fit c.state))) (agrees.external elapsed bags s h come few)
      (keeps.external elapsed bags s h come few);
  confluent = λ bags s h come few.
      subst (λ (o : Option (Result Change Fault)). IfSome o (λ r. IfOk r (λ (c : Change). IsTrue (fit c.state))))
      (agrees.confluent bags s h come few)
      (keeps.confluent bags s h come few);
}

module _ (m : AtomicTree) (compilable : IsCompilable m) (numbers : IsOfNumbers m)
    (keeps : Keeps (fits m) are_of_numbers (behaviour_of m))
    (agrees : Agrees (fits m) are_of_numbers (behaviour_of m) (behaviour_by (phase_codes m)))
    (responds : (elapsed ticks : ℕ) (bags : List Counts) (s : State) (c : Change) → AreFew bags → fits m s ≡ true →
    (behaviour_by (phase_codes m)).external elapsed bags s ≡ Ok c → c.goes ≡ true → HoldsNumbers c.state.variables →
    (behaviour_by (phase_codes m)).hold c.state ≡ Ok (Some ticks) → IsNotBelow (response_of m) ticks)
    (starts : fits m (start_state m) ≡ true) where
  abbrev Fit : Change → Type 0
  Fit c = IsTrue (fits_kept m c.state)

  parts_of : (s : State) → IsTrue (fits_kept m s) → (fits m s ≡ true) × (are_kept s.variables ≡ true)
  parts_of s h = and_parts (fits m s) (are_kept s.variables) h

  both_fit : (r : Result Change Fault) → IfOk r (λ (c : Change). IsTrue (fits m c.state)) →
      IfOk r (λ (c : Change). IsTrue (are_kept c.state.variables)) →
      IfOk r Fit
  both_fit r h k =
      join (λ (c : Change). IsTrue (fits m c.state)) (λ (c : Change). IsTrue (are_kept c.state.variables)) Fit r h k
      (λ c f g. both_true (fits m c.state) (are_kept c.state.variables) f g)

  internal_keeps : (s : State) → IsTrue (fits_kept m s) → IfOk ((behaviour_by (phase_codes m)).internal s) Fit
  internal_keeps s h =
      let parts = parts_of s h in
      let body = rule_body Internal (phase_name (scope_of m) s.phase) m.rules in
      subst (λ (r : Result Change Fault). IfOk r Fit) (agrees.internal s parts.0)
      (both_fit ((behaviour_of m).internal s) (keeps.internal s parts.0)
      (change_kept (effect_of (scope_of m) body nothing_arrived s)
      (effect_kept (scope_of m) body nothing_arrived s
      (small_body Internal (phase_name (scope_of m) s.phase) m.rules numbers.rules) refl refl parts.1)))

  external_keeps : (elapsed : ℕ) (bags : List Counts) (s : State) → IsTrue (fits_kept m s) → IsTrue (are_of_numbers bags) →
      IsTrue (are_few bags) →
      IfOk ((behaviour_by (phase_codes m)).external elapsed bags s) Fit
  external_keeps elapsed bags s h come few =
      let parts = parts_of s h in
      let body = rule_body External (phase_name (scope_of m) s.phase) m.rules in
      let arrivals : Arrivals = record { received = bags; elapsed = elapsed } in
      subst (λ (r : Result Change Fault). IfOk r Fit) (agrees.external elapsed bags s parts.0 come few)
      (both_fit ((behaviour_of m).external elapsed bags s) (keeps.external elapsed bags s parts.0 come few)
      (change_kept (effect_of (scope_of m) body arrivals s)
      (effect_kept (scope_of m) body arrivals s
      (small_body External (phase_name (scope_of m) s.phase) m.rules numbers.rules) come few parts.1)))

  confluent_keeps : (bags : List Counts) (s : State) → IsTrue (fits_kept m s) → IsTrue (are_of_numbers bags) → IsTrue (are_few bags) →
      IfSome ((behaviour_by (phase_codes m)).confluent bags s) (λ r. IfOk r Fit)
  confluent_keeps bags s h come few =
      let parts = parts_of s h in
      subst (λ (o : Option (Result Change Fault)). IfSome o (λ r. IfOk r Fit)) (agrees.confluent bags s parts.0 come few)
      (by_rule (rule_of Confluent (phase_name (scope_of m) s.phase) m.rules)
      (small_rule Confluent (phase_name (scope_of m) s.phase) m.rules numbers.rules) (keeps.confluent bags s parts.0 come few) parts.1)
    where
      arrivals : Arrivals
      arrivals = record { received = bags; elapsed = 0 }

      by_rule : (o : Option Statements) → IfSome o (λ body. IsTrue (name_numbers body)) →
          IfSome (option_map (λ body. change_by m body (record { received = bags; elapsed = 0 }) s) o)
          (λ r. IfOk r (λ (c : Change). IsTrue (fits m c.state))) → are_kept s.variables ≡ true →
          IfSome (option_map (λ body. change_by m body (record { received = bags; elapsed = 0 }) s) o) (λ r. IfOk r Fit)
      by_rule None small fit kept = tt
      by_rule (Some body) small fit kept =
          both_fit (change_by m body (record { received = bags; elapsed = 0 }) s) fit
          (change_kept (effect_of (scope_of m) body (record { received = bags; elapsed = 0 }) s)
          (effect_kept (scope_of m) body (record { received = bags; elapsed = 0 }) s small come few kept))

  responds_at : IsResponse (fits_kept m) are_of_numbers (response_of m) (behaviour_by (phase_codes m))
  responds_at elapsed bags s h come few =
      by_result ((behaviour_by (phase_codes m)).external elapsed bags s) refl (external_keeps elapsed bags s h come few)
    where
      by_hold : (c : Change) (held : Result (Option ℕ) Fault) → (behaviour_by (phase_codes m)).external elapsed bags s ≡ Ok c →
          c.goes ≡ true →
          are_kept c.state.variables ≡ true → (behaviour_by (phase_codes m)).hold c.state ≡ held → IfOk held (IsAtLeast (response_of m))
      by_hold c (Err f) is goes kept hold = tt
      by_hold c (Ok None) is goes kept hold = tt
      by_hold c (Ok (Some ticks)) is goes kept hold =
          let parts = parts_of s h in
          not_below (response_of m) ticks
          (responds elapsed ticks bags s c (λ port. few_here bags port few) parts.0 is goes (all_held c.state.variables kept) hold)

      by_result : (r : Result Change Fault) → (behaviour_by (phase_codes m)).external elapsed bags s ≡ r → IfOk r Fit →
          IfOk r (λ (c : Change). IsTrue c.goes → IfOk ((behaviour_by (phase_codes m)).hold c.state) (IsAtLeast (response_of m)))
      by_result (Err f) is fit = tt
      by_result (Ok c) is fit = λ goes.
          let parts = parts_of c.state fit in
          by_hold c ((behaviour_by (phase_codes m)).hold c.state) is goes parts.1 refl

  sends_at : (s : State) → IsTrue (fits_kept m s) → IfOk ((behaviour_by (phase_codes m)).output s) (λ bags. IsTrue (are_of_numbers bags))
  sends_at s h =
      let parts = parts_of s h in
      let body = rule_body Output (phase_name (scope_of m) s.phase) m.rules in
      subst (λ (r : Result (List Counts) Fault). IfOk r (λ bags. IsTrue (are_of_numbers bags))) (agrees.output s parts.0)
      (sent_kept (effect_of (scope_of m) body nothing_arrived s)
      (effect_sends (scope_of m) body nothing_arrived s
      (small_body Output (phase_name (scope_of m) s.phase) m.rules numbers.rules) refl refl parts.1))

  pub is_sound : (limit k : ℕ) → IsSound (fits_kept m) (response_of m) (member_of limit k m)
  is_sound limit k = record {
    keeps = record { internal = internal_keeps; external = external_keeps; confluent = confluent_keeps };
    responds = responds_at;
    sends = sends_at;
    start =
        subst (λ (s : State). IsTrue (fits_kept m s)) (sym (state_first (start_state m) _))
        (both_true (fits m (start_state m)) (are_kept (start_state m).variables) starts numbers.start);
    quiet = quiet_first (start_state m) _;
  }
