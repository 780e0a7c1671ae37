-- A generator of an accepted model is ready, and makes the programs of the model's phases.
use Rattle.std.proofs.Common.{◌≡◌, ℕ, List, map, length, option_map, unwrap_or, Option, sym, ap, subst, ◌∙◌}
use Rattle.std.specs.Prelude.{IfSome}
use Rattle.std.proofs.Math.Path.{fun_ext}
use Rattle.dv_syntax.specs.Trees.{AtomicTree, Done, Expression, Statements}
use Rattle.dv_syntax.specs.declared.tree.RuleSort.{RuleSort}
use Rattle.dv_syntax.specs.declared.tree.RuleSort.TheVariants.{Output, Internal, External, Confluent}
use Rattle.dv_code.specs.declared.shape.Slot.{Slot}
use Rattle.dv_code.specs.Shape.{AreSmall}
use Rattle.dv_eval.specs.Scope.{Scope, hold_ticks, rule_of, scope_of}
use Rattle.dv_gen.specs.Directories.{rule_found, ticks_found_in}
use Rattle.dv_gen.specs.Emission.{IsHoldTicks, IsRuleBody, hold_code, rule_code}
use Rattle.dv_gen.specs.Generators.{IsGeneratorOf, IsReady, code_of_phase}
use Rattle.dv_gen.specs.ModelCode.{phase_code, phase_codes}
use Rattle.dv_gen.specs.Resolution.{tables_of}
use Rattle.dv_gen.specs.declared.generator.Generator.{Generator}
use Rattle.dv_gen.specs.declared.model_code.PhaseCode.{PhaseCode}

-- the programs of a phase, by what is found for it
abbrev found_codes : Scope → (RuleSort → ℕ → Option Statements) → (ℕ → Option Expression) → ℕ → PhaseCode
found_codes scope rules holds phase = record {
  output = rule_code scope Output (unwrap_or (rules Output phase) Done);
  internal = rule_code scope Internal (unwrap_or (rules Internal phase) Done);
  external = rule_code scope External (unwrap_or (rules External phase) Done);
  confluent = option_map (rule_code scope Confluent) (rules Confluent phase);
  hold = option_map (hold_code scope) (holds phase);
}

module _ (m : AtomicTree) (g : Generator) (of : IsGeneratorOf m g) where
  code_is : (phase : ℕ) → code_of_phase g phase ≡ phase_code m phase
  code_is phase =
      ap (λ scope. found_codes scope (rule_found g.directory) (ticks_found_in g.directory) phase) of.names
      ∙ ap (λ rules. found_codes (scope_of m) rules (ticks_found_in g.directory) phase) (fun_ext (λ sort. fun_ext (of.rules sort)))
      ∙ ap (λ holds. found_codes (scope_of m) (λ sort phase. rule_of sort phase m.rules) holds phase) (fun_ext of.holds)

  -- the programs of all phases
  pub codes_are : (phases : List ℕ) → phases ≡ (scope_of m).phases → map (code_of_phase g) phases ≡ phase_codes m
  codes_are phases is = ap (λ f. map f phases) (fun_ext code_is) ∙ ap (map (phase_code m)) is

  pub is_ready : g.tables.now.value ≡ tables_of g.names → AreSmall (tables_of g.names).slots
      → ((sort : RuleSort) (phase : ℕ) → IfSome (rule_of sort phase m.rules) (IsRuleBody (scope_of m) sort))
      → ((phase : ℕ) → IfSome (hold_ticks phase m.holds) (IsHoldTicks (scope_of m))) → IsReady g
  is_ready tables small bodies ticks = record {
    tables = tables;
    small = small;
    bodies = λ sort phase. subst (λ scope. IfSome (rule_found g.directory sort phase) (IsRuleBody scope sort)) (sym of.names)
        (subst (λ found. IfSome found (IsRuleBody (scope_of m) sort)) (sym (of.rules sort phase)) (bodies sort phase));
    ticks = λ phase. subst (λ scope. IfSome (ticks_found_in g.directory phase) (IsHoldTicks scope)) (sym of.names)
        (subst (λ found. IfSome found (IsHoldTicks (scope_of m))) (sym (of.holds phase)) (ticks phase));
  }

-- tables by their parts
pub tables_made : (scope : Scope) (slots : List Slot) (inputs outputs phases : List ℕ) → slots ≡ (tables_of scope).slots
    → inputs ≡ scope.inputs
    → outputs ≡ scope.outputs → phases ≡ scope.phases
    → record { slots = slots; inputs = length inputs; outputs = length outputs; phases = length phases } ≡ tables_of scope
tables_made scope slots inputs outputs phases a b c d =
    λ i. record { slots = a i; inputs = length (b i); outputs = length (c i); phases = length (d i) }
