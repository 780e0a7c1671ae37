-- The programs of a model stand over its tables.
use Rattle.std.proofs.Common.{◌≡◌, ℕ, zero, suc, List, [], ◌∷◌, map, refl, subst}
use Rattle.std.specs.Prelude.{Option, Some, None, option_map, slice_get}
use Rattle.std.specs.Option.{ForSome}
use Rattle.dv_syntax.specs.Trees.{AtomicTree, Expression, Statements}
use Rattle.dv_syntax.specs.declared.tree.RuleSort.TheVariants.{Confluent}
use Rattle.dv_eval.specs.Scope.{hold_ticks, rule_of, scope_of}
use Rattle.dv_code.specs.Shape.{Shape}
use Rattle.dv_code.specs.Valid.{Program}
use Rattle.dv_gen.specs.ModelCode.{hold_program, phase_code, phase_codes, rule_program}
use Rattle.dv_gen.specs.Over.{AreOver, IsOver}
use Rattle.dv_gen.specs.Resolution.{hold_shape, rule_shape, tables_of}
use Rattle.dv_gen.specs.declared.model_code.PhaseCode.{PhaseCode}

-- the shape of programs that are all of one shape, if there is one
shape-of_some : {X : Type 0} (program : X → Program) (shape : Shape) → ((x : X) → (program x).shape ≡ shape) → (found : Option X) →
    ForSome (option_map program found) (λ (p : Program). p.shape ≡ shape)
shape-of_some program shape same None = λ p there. absurd (cc)
shape-of_some program shape same (Some x) = λ p there.
    let found : program x ≡ p = cc in subst (λ (q : Program). q.shape ≡ shape) found (same x)

phase-over : (m : AtomicTree) (phase : ℕ) → IsOver (tables_of (scope_of m)) (phase_code m phase)
phase-over m phase = record {
  output = refl;
  internal = refl;
  external = refl;
  confluent =
      shape-of_some (rule_program m Confluent) (rule_shape (scope_of m) Confluent) (λ (b : Statements). refl)
      (rule_of Confluent phase m.rules);
  hold = shape-of_some (hold_program m) (hold_shape (scope_of m)) (λ (e : Expression). refl) (hold_ticks phase m.holds);
}

over-each : (m : AtomicTree) (phases : List ℕ) (index : ℕ) (c : PhaseCode) → slice_get (map (phase_code m) phases) index ≡ Some c →
    IsOver (tables_of (scope_of m)) c
over-each m [] index c there = absurd (cc)
over-each m (p ∷ phases) zero c there =
    let same : phase_code m p ≡ c = cc in subst (IsOver (tables_of (scope_of m))) same (phase-over m p)
over-each m (p ∷ phases) (suc index) c there = over-each m phases index c there

pub programs_over : (m : AtomicTree) → AreOver (tables_of (scope_of m)) (phase_codes m)
programs_over m = over-each m (scope_of m).phases
