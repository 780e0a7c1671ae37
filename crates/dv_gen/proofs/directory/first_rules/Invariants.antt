use Rattle.std.proofs.Common.{◌≡◌, ℕ, drop, map}
use Rattle.dv_check.specs.Tables.{value_for}
use Rattle.dv_syntax.specs.Trees.{rule_of as tree_of}
use Rattle.dv_eval.specs.Scope.{rule_of}
use Rattle.dv_gen.proofs.Directories.{in_front}
use Rattle.dv_gen.proofs.directory.first_rules.Given as goal

abbrev pub invariant-loop-rule : goal.invariant-loop-rule
invariant-loop-rule l =
    (phase : ℕ) → in_front (value_for l.first phase) (rule_of l.sort phase (map tree_of (drop l.rule-index l.rules)))
    ≡ rule_of l.sort phase (map tree_of l.rules)
