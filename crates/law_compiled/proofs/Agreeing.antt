-- A behaviour by programs is that by rules, where each program gives what its rule or its hold means.
use Rattle.std.proofs.Common.{◌≡◌, ℕ, Bool, true, List, length, option_map, unwrap_or, Option, Some, None, Result, Ok, IfSome}
use Rattle.std.proofs.Common.{refl, sym, ap, ◌∙◌}
use Rattle.std.specs.Prelude.{slice_get}
use Rattle.std.proofs.lemmas.Bool.{and_parts, ltb-true}
use Rattle.std.proofs.lemmas.Option.{slice_get-get_or, slice_get-map}
use Rattle.dv_syntax.specs.Trees.{AtomicTree, Done, Expression, Statements}
use Rattle.dv_syntax.specs.declared.tree.RuleSort.{RuleSort}
use Rattle.dv_syntax.specs.declared.tree.RuleSort.TheVariants.{Confluent, External, Internal, Output}
use Rattle.dv_bag.specs.Arrivals.{AreFew, Arrivals, nothing_arrived}
use Rattle.dv_bag.specs.Bag.{Counts}
use Rattle.dv_bag.specs.Outcome.{◌>>=◌}
use Rattle.dv_bag.specs.declared.fault.Fault.{Fault}
use Rattle.dv_bag.specs.declared.state.Effect.{Effect}
use Rattle.dv_bag.specs.declared.state.State.{State}
use Rattle.dv_code.specs.Outcomes.{effect_by, number_by}
use Rattle.dv_code.specs.Valid.{Program}
use Rattle.dv_devs.specs.Fits.{Agrees}
use Rattle.dv_eval.specs.Meaning.{effect_of, hold_of, ticks_from}
use Rattle.dv_eval.specs.Scope.{hold_ticks, phase_name, rule_body, rule_of, scope_of}
use Rattle.law_accepted.specs.Fitting.{data_fit, fits}
use Rattle.dv_gen.specs.ModelCode.{hold_program, phase_code, phase_codes, rule_program}
use Rattle.dv_gen.specs.declared.model_code.PhaseCode.{PhaseCode}
use Rattle.law_compiled.specs.Behaviours.{arriving, behaviour_by, change_of, confluent_program, effect_in}
use Rattle.law_compiled.specs.Behaviours.{hold_program as program_of_hold, ticks_by}
use Rattle.dv_plain.specs.Source.{behaviour_of}
use Rattle.law_compiled.proofs.Floods.{few_passed, nothing_is_few}

-- the program of a rule's statements gives their effect in each state that fits, unless a port is flooded
abbrev pub GivesEffects : AtomicTree → RuleSort → Statements → Type 0
GivesEffects m sort body = (arrivals : Arrivals) → AreFew arrivals.received → (s : State) → fits m s ≡ true
    → effect_by (rule_program m sort body) arrivals s ≡ effect_of (scope_of m) body arrivals s

-- the program of a hold's expression gives its ticks
abbrev pub GivesTicks : AtomicTree → Expression → Type 0
GivesTicks m e = (s : State) → fits m s ≡ true
    → (number_by (hold_program m e) nothing_arrived s >>= ticks_from) ≡ hold_of (scope_of m) (Some e) s

-- what holds of what an option has, if it has something, and of another thing holds of the one that is taken
if_unwrapped : {A : Type 0} (P : A → Type 0) (o : Option A) (otherwise : A) → IfSome o P → P otherwise → P (unwrap_or o otherwise)
if_unwrapped P None otherwise some none = none
if_unwrapped P (Some x) otherwise some none = some

module _ (m : AtomicTree)
    (rules : (sort : RuleSort) (phase : ℕ) → IfSome (rule_of sort phase m.rules) (GivesEffects m sort))
    (empty : (sort : RuleSort) → GivesEffects m sort Done)
    (holds : (phase : ℕ) → IfSome (hold_ticks phase m.holds) (GivesTicks m)) where
  abbrev name_in : State → ℕ
  name_in s = phase_name (scope_of m) s.phase

  code_there : (s : State) → fits m s ≡ true → slice_get (phase_codes m) s.phase ≡ Some (phase_code m (name_in s))
  code_there s fit =
      let fit_parts = and_parts _ (data_fit (scope_of m).variables s.variables) fit in
      let within = ltb-true s.phase (length (scope_of m).phases) fit_parts.0 in
      slice_get-map (phase_code m) (scope_of m).phases s.phase
      ∙ ap (option_map (phase_code m)) (slice_get-get_or (scope_of m).phases s.phase 0 within)

  -- the effect of a rule that each phase has, if only an empty one
  effect_there : (sort : RuleSort) (rule : PhaseCode → Program)
      → ((phase : ℕ) → rule (phase_code m phase) ≡ rule_program m sort (rule_body sort phase m.rules))
      → (arrivals : Arrivals) → AreFew arrivals.received → (s : State) → fits m s ≡ true
      → effect_of (scope_of m) (rule_body sort (name_in s) m.rules) arrivals s
      ≡ effect_in (slice_get (phase_codes m) s.phase) rule arrivals s
  effect_there sort rule of arrivals few s fit =
      let name = name_in s in
      let gives = if_unwrapped (GivesEffects m sort) (rule_of sort name m.rules) Done (rules sort name) (empty sort) in
      sym (ap (λ code. effect_in code rule arrivals s) (code_there s fit) ∙ ap (λ p. effect_by p arrivals s) (of name)
      ∙ gives arrivals few s fit)

  confluent_there : (arrivals : Arrivals) → AreFew arrivals.received → (s : State) → fits m s ≡ true
      → (o : Option Statements) → IfSome o (GivesEffects m Confluent)
      → option_map (λ body. change_of (effect_of (scope_of m) body arrivals s)) o
      ≡ option_map (λ p. change_of (effect_by p arrivals s)) (option_map (rule_program m Confluent) o)
  confluent_there arrivals few s fit None gives = refl
  confluent_there arrivals few s fit (Some body) gives = ap (λ r. Some (change_of r)) (sym (gives arrivals few s fit))

  hold_there : (s : State) → fits m s ≡ true → (o : Option Expression) → IfSome o (GivesTicks m)
      → hold_of (scope_of m) o s ≡ ticks_by (option_map (hold_program m) o) s
  hold_there s fit None gives = refl
  hold_there s fit (Some e) gives = sym (gives s fit)

  pub programs_agree : (comes : List Counts → Bool) → Agrees (fits m) comes (behaviour_of m) (behaviour_by (phase_codes m))
  programs_agree comes = record {
    output = λ s fit.
        ap (λ (r : Result Effect Fault). r >>= λ e. Ok e.sent)
        (effect_there Output (λ c. c.output) (λ phase. refl) nothing_arrived nothing_is_few s fit);
    internal = λ s fit.
        ap change_of (effect_there Internal (λ c. c.internal) (λ phase. refl) nothing_arrived nothing_is_few s fit);
    external = λ elapsed bags s fit come few.
        ap change_of
        (effect_there External (λ c. c.external) (λ phase. refl) (arriving bags elapsed) (few_passed bags few) s fit);
    confluent = λ bags s fit come few.
        let arrivals = arriving bags 0 in
        let name = name_in s in
        confluent_there arrivals (few_passed bags few) s fit (rule_of Confluent name m.rules) (rules Confluent name)
        ∙ ap (λ code. option_map (λ p. change_of (effect_by p arrivals s)) (confluent_program code)) (sym (code_there s fit));
    hold = λ s fit.
        hold_there s fit (hold_ticks (name_in s) m.holds) (holds (name_in s))
        ∙ ap (λ code. ticks_by (program_of_hold code) s) (sym (code_there s fit));
  }
