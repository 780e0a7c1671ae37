use Rattle.std.proofs.Common.{◌≡◌, map, drop}
use Rattle.std.specs.List.{flat_map}
use Rattle.dv_syntax.specs.Trees.{rule_of}
use Rattle.dv_check.specs.Findings.{with_refusals}
use Rattle.dv_check.specs.Rules.{known_by, rule_refusals}
use Rattle.dv_check.proofs.declarations.Declarations.check_rules.Given as goal

abbrev pub invariant-loop-rule : goal.invariant-loop-rule
invariant-loop-rule l =
    with_refusals l.found (flat_map (rule_refusals (known_by l.self)) (map rule_of (drop l.rule-index l.rules)))
    ≡ with_refusals l.initial.found (flat_map (rule_refusals (known_by l.self)) (map rule_of l.rules))
