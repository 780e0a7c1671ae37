-- The programs of an atomic model: for each phase those of its rules and of its hold.
use Rattle.std.specs.Prelude.{◌≡◌, ℕ, ◌≤◌, IfSome, List, [], length, map, option_map}
use Rattle.std.specs.List.{All}
use Rattle.dv_syntax.specs.Trees.{AtomicTree, Expression, HoldTree, ModelTree, AtomicModel, CoupledModel, RuleTree, Statements}
use Rattle.dv_syntax.specs.Grammar.{loop_depth}
use Rattle.dv_syntax.specs.declared.tree.RuleSort.{RuleSort}
use Rattle.dv_syntax.specs.declared.tree.RuleSort.TheVariants.{Output, Internal, External, Confluent}
use Rattle.dv_eval.specs.Scope.{hold_ticks, rule_body, rule_of, scope_of}
use Rattle.dv_check.specs.Rules.{atomic_refusals}
use Rattle.dv_code.specs.Valid.{Program}
use Rattle.dv_code.specs.Limits.{deepest_loops}
use Rattle.dv_gen.specs.Generator.{hold_program_of, program_of}
use Rattle.dv_gen.specs.Resolution.{hold_shape, hold_tree, rule_shape, rule_tree}
use Rattle.dv_gen.specs.declared.model_code.PhaseCode.{PhaseCode}

abbrev pub rule_program : AtomicTree → RuleSort → Statements → Program
rule_program m sort body = record { shape = rule_shape (scope_of m) sort; code = program_of (rule_tree m body) }

abbrev pub hold_program : AtomicTree → Expression → Program
hold_program m e = record { shape = hold_shape (scope_of m); code = hold_program_of (hold_tree m e) }

-- The programs of the rules of a phase, by its name, and of its hold. A missing rule is an empty one; without a confluent rule there is no
-- program for it, and a hold that is forever has none.
abbrev pub phase_code : AtomicTree → ℕ → PhaseCode
phase_code m phase = record {
  output = rule_program m Output (rule_body Output phase m.rules);
  internal = rule_program m Internal (rule_body Internal phase m.rules);
  external = rule_program m External (rule_body External phase m.rules);
  confluent = option_map (rule_program m Confluent) (rule_of Confluent phase m.rules);
  hold = option_map (hold_program m) (hold_ticks phase m.holds);
}

-- the phases by their indices
abbrev pub phase_codes : AtomicTree → List PhaseCode
phase_codes m = map (phase_code m) (scope_of m).phases

-- What is true of each atomic model of a text within its limits: it is accepted, and its loops are not nested too deeply.
pub record IsCompilable (m : AtomicTree) : Type 0 where
  pub accepted : atomic_refusals m ≡ []
  pub shallow : All (λ (r : RuleTree). loop_depth r.body ≤ deepest_loops) m.rules

-- the same for a model; a coupled one has no programs
abbrev pub IsCompilableModel : ModelTree → Type 0
IsCompilableModel (AtomicModel m) = IsCompilable m
IsCompilableModel (CoupledModel m) = Unit {0}

-- no program of a model has more instructions than this
pub record AreNoLonger (n : ℕ) (m : AtomicTree) : Type 0 where
  pub rules : All (λ (r : RuleTree). length (program_of (rule_tree m r.body)) ≤ n) m.rules
  pub holds : All (λ (h : HoldTree). IfSome h.ticks (λ e. length (hold_program_of (hold_tree m e)) ≤ n)) m.holds

-- the same for a model; a coupled one has no programs
abbrev pub HasProgramsWithin : ℕ → ModelTree → Type 0
HasProgramsWithin n (AtomicModel m) = AreNoLonger n m
HasProgramsWithin n (CoupledModel m) = Unit {0}
