-- What a generator requires of its parts, and the programs that it makes of what its directory finds.
use Rattle.std.specs.Prelude.{◌≡◌, ℕ, option_map, unwrap_or, IfSome}
use Rattle.dv_syntax.specs.Trees.{AtomicTree, Done}
use Rattle.dv_syntax.specs.declared.tree.RuleSort.{RuleSort}
use Rattle.dv_syntax.specs.declared.tree.RuleSort.TheVariants.{Output, Internal, External, Confluent}
use Rattle.dv_code.specs.Shape.{AreSmall}
use Rattle.dv_code.specs.Valid.{Program}
use Rattle.dv_eval.specs.Scope.{hold_ticks, rule_of, scope_of}
use Rattle.dv_gen.specs.Resolution.{tables_of}
use Rattle.dv_gen.specs.Emission.{IsHoldTicks, IsRuleBody, hold_code, rule_code}
use Rattle.dv_gen.specs.Directories.{rule_found, ticks_found_in}
use Rattle.dv_gen.specs.declared.generator.Generator.{Generator}
use Rattle.dv_gen.specs.declared.model_code.PhaseCode.{PhaseCode}

-- its tables are those of its names, and programs can be made of what its directory finds
pub record IsReady (g : Generator) : Type 0 where
  pub tables : g.tables.now.value ≡ tables_of g.names
  pub small : AreSmall (tables_of g.names).slots
  pub bodies : (sort : RuleSort) (phase : ℕ) → IfSome (rule_found g.directory sort phase) (IsRuleBody g.names sort)
  pub ticks : (phase : ℕ) → IfSome (ticks_found_in g.directory phase) (IsHoldTicks g.names)

-- its names, rules and holds are those of a model
pub record IsGeneratorOf (m : AtomicTree) (g : Generator) : Type 0 where
  pub names : g.names ≡ scope_of m
  pub rules : (sort : RuleSort) (phase : ℕ) → rule_found g.directory sort phase ≡ rule_of sort phase m.rules
  pub holds : (phase : ℕ) → ticks_found_in g.directory phase ≡ hold_ticks phase m.holds

-- the program of the first rule of a sort for a phase; a missing rule is empty
abbrev pub code_of_rule : Generator → RuleSort → ℕ → Program
code_of_rule g sort phase = rule_code g.names sort (unwrap_or (rule_found g.directory sort phase) Done)

-- the programs of a phase
abbrev pub code_of_phase : Generator → ℕ → PhaseCode
code_of_phase g phase = record {
  output = code_of_rule g Output phase;
  internal = code_of_rule g Internal phase;
  external = code_of_rule g External phase;
  confluent = option_map (rule_code g.names Confluent) (rule_found g.directory Confluent phase);
  hold = option_map (hold_code g.names) (ticks_found_in g.directory phase);
}
