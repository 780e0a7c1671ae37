-- The behaviour of an accepted model keeps to the states that fit.
use Rattle.std.proofs.Common.{◌≡◌, ℕ, ◌<◌, Bool, true, List, length, Option, Some, None, Result, Ok, Err, IfOk, IfSome, IsTrue}
use Rattle.std.proofs.Common.{option_map, refl}
use Rattle.dv_syntax.specs.Trees.{AtomicTree, Statements}
use Rattle.dv_syntax.specs.declared.tree.RuleSort.TheVariants.{Confluent, External, Internal}
use Rattle.dv_bag.specs.Arrivals.{Arrivals, nothing_arrived}
use Rattle.dv_bag.specs.Bag.{Counts}
use Rattle.dv_bag.specs.declared.fault.Fault.{Fault}
use Rattle.dv_bag.specs.declared.state.Effect.{Effect}
use Rattle.dv_bag.specs.declared.state.State.{State}
use Rattle.dv_devs.specs.Behaviour.{Change, state_by_goto}
use Rattle.dv_devs.specs.Fits.{Keeps}
use Rattle.dv_eval.specs.Meaning.{effect_of}
use Rattle.dv_eval.specs.Scope.{phase_name, rule_body, rule_of, scope_of}
use Rattle.law_accepted.specs.Fitting.{LeadsToPhase, fits, in_phase}
use Rattle.law_compiled.specs.Behaviours.{arriving, change_of}
use Rattle.dv_plain.specs.Source.{behaviour_of}

module _ (m : AtomicTree)
    (state : (body : Statements) (arrivals : Arrivals) (s : State) (e : Effect) → fits m s ≡ true
    → effect_of (scope_of m) body arrivals s ≡ Ok e → fits m e.state ≡ true)
    (goto : (body : Statements) (arrivals : Arrivals) (s : State) (e : Effect) → fits m s ≡ true
    → effect_of (scope_of m) body arrivals s ≡ Ok e → LeadsToPhase (scope_of m) e.goto)
    (phase : (s : State) (index : ℕ) → fits m s ≡ true → index < length (scope_of m).phases
    → fits m (in_phase s index) ≡ true) where
  goto_fits : (s : State) (to : Option ℕ) → fits m s ≡ true → LeadsToPhase (scope_of m) to
      → IsTrue (fits m (state_by_goto s to).state)
  goto_fits s None fit leads = fit
  goto_fits s (Some index) fit leads = phase s index fit leads

  change_fits : (body : Statements) (arrivals : Arrivals) (s : State) → fits m s ≡ true
      → IfOk (change_of (effect_of (scope_of m) body arrivals s)) (λ (c : Change). IsTrue (fits m c.state))
  change_fits body arrivals s fit = by (effect_of (scope_of m) body arrivals s) refl
    where
      by : (r : Result Effect Fault) → effect_of (scope_of m) body arrivals s ≡ r
          → IfOk (change_of r) (λ (c : Change). IsTrue (fits m c.state))
      by (Ok e) is = goto_fits e.state e.goto (state body arrivals s e fit is) (goto body arrivals s e fit is)
      by (Err f) is = tt

  confluent_fits : (bags : List Counts) (s : State) → fits m s ≡ true → (o : Option Statements)
      → IfSome (option_map (λ body. change_of (effect_of (scope_of m) body (arriving bags 0) s)) o)
      (λ r. IfOk r (λ (c : Change). IsTrue (fits m c.state)))
  confluent_fits bags s fit None = tt
  confluent_fits bags s fit (Some body) = change_fits body (arriving bags 0) s fit

  pub rules_keep : (comes : List Counts → Bool) → Keeps (fits m) comes (behaviour_of m)
  rules_keep comes = record {
    internal = λ s fit. change_fits (rule_body Internal (phase_name (scope_of m) s.phase) m.rules) nothing_arrived s fit;
    external = λ elapsed bags s fit come few.
        change_fits (rule_body External (phase_name (scope_of m) s.phase) m.rules) (arriving bags elapsed) s fit;
    confluent = λ bags s fit come few. confluent_fits bags s fit (rule_of Confluent (phase_name (scope_of m) s.phase) m.rules);
  }
