use Rattle.std.proofs.Common.{◌≡◌, drop}
use Rattle.dv_syntax.specs.Trees.{statements_of}
use Rattle.dv_check.specs.Findings.{with_refusals}
use Rattle.dv_check.specs.Rules.{known_at, statements_refusals}
use Rattle.dv_check.proofs.statements.+statements.Given as goal

abbrev pub invariant-check_statements-loop-statement :
    goal.invariant-check_statements-loop-statement
invariant-check_statements-loop-statement l =
    with_refusals l.found (statements_refusals (known_at l.environment) (statements_of (drop l.statement-index l.statements)))
    ≡ with_refusals l.initial.found (statements_refusals (known_at l.environment) (statements_of l.statements))
