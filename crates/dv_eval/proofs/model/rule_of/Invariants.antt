use Rattle.std.proofs.Common.{◌≡◌, drop, map}
use Rattle.dv_syntax.specs.Trees.{atomic_of}
use Rattle.dv_syntax.specs.Trees.{rule_of as tree_of}
use Rattle.dv_eval.specs.Scope.{rule_of}
use Rattle.dv_eval.proofs.model.rule_of.Given as goal

abbrev pub invariant-loop-rule : goal.invariant-loop-rule
invariant-loop-rule l =
    rule_of l.sort l.phase (map tree_of (drop l.rule-index l.rule-items)) ≡ rule_of l.sort l.phase (atomic_of l.model).rules
