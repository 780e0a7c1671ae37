-- What a directory finds of an atomic model's rules and holds.
use Rattle.std.specs.Prelude.{ℕ, option_map, List, Option}
use Rattle.std.specs.Borrow.{Bor}
use Rattle.dv_syntax.specs.Trees.{Expression, Statements, atomic_of, statements_of}
use Rattle.dv_syntax.specs.declared.tree.Stmt.{Stmt}
use Rattle.dv_syntax.specs.declared.tree.Ticks.{Ticks}
use Rattle.dv_syntax.specs.declared.tree.RuleSort.{RuleSort}
use Rattle.dv_syntax.specs.declared.tree.RuleSort.TheVariants.{Output, Internal, External, Confluent}
use Rattle.dv_check.specs.Tables.{value_for}
use Rattle.dv_check.specs.declared.directory.Directory.{Directory}
use Rattle.dv_eval.specs.Scope.{hold_ticks, rule_of, ticks_found}
use Rattle.dv_gen.specs.declared.directory.PhaseDirectory.{PhaseDirectory}
use Rattle.dv_gen.specs.declared.directory.PhaseDirectory.TheVariants.{Few, Many}
use Rattle.dv_gen.specs.declared.directory.PhaseTables.{PhaseTables}

-- the statements, and the ticks, that a directory has for the name of a phase
abbrev pub rule_under : Directory (Bor (List Stmt)) → ℕ → Option Statements
rule_under rules phase = option_map (λ s. statements_of s.now) (value_for rules phase)

abbrev pub ticks_under : Directory (Bor Ticks) → ℕ → Option Expression
ticks_under holds phase = ticks_found (option_map (λ t. t.now) (value_for holds phase))

-- what tables have of a model
abbrev pub rule_in : PhaseTables → RuleSort → ℕ → Option Statements
rule_in t Output phase = rule_under t.output phase
rule_in t Internal phase = rule_under t.internal phase
rule_in t External phase = rule_under t.external phase
rule_in t Confluent phase = rule_under t.confluent phase

abbrev pub ticks_in : PhaseTables → ℕ → Option Expression
ticks_in t phase = ticks_under t.holds phase

-- what is found of a model
abbrev pub rule_found : PhaseDirectory → RuleSort → ℕ → Option Statements
rule_found (Few model) sort phase = rule_of sort phase (atomic_of model.now).rules
rule_found (Many tables) sort phase = rule_in tables sort phase

abbrev pub ticks_found_in : PhaseDirectory → ℕ → Option Expression
ticks_found_in (Few model) phase = hold_ticks phase (atomic_of model.now).holds
ticks_found_in (Many tables) phase = ticks_in tables phase
