use Rattle.std.proofs.Common.{◌≡◌, ◌+◌, ◌*◌, drop}
use Rattle.dv_syntax.specs.Trees.{statements_of}
use Rattle.dv_gen.specs.Emission.{loops_of, with_statements}
use Rattle.dv_gen.specs.Resolution.{all_resolved}
use Rattle.dv_gen.proofs.statement.+statements.Given as goal

abbrev pub decreases-emit_statement : goal.decreases-emit_statement
decreases-emit_statement l = 3 * goal.size-emit_statement l

abbrev pub decreases-emit_when : goal.decreases-emit_when
decreases-emit_when l = 3 * goal.size-emit_when l + 2

abbrev pub decreases-emit_first_block : goal.decreases-emit_first_block
decreases-emit_first_block l = 3 * goal.size-emit_first_block l + 2

abbrev pub decreases-emit_other_block : goal.decreases-emit_other_block
decreases-emit_other_block l = 3 * goal.size-emit_other_block l + 2

abbrev pub decreases-emit_loop : goal.decreases-emit_loop
decreases-emit_loop l = 3 * goal.size-emit_loop l + 2

abbrev pub decreases-emit_statements : goal.decreases-emit_statements
decreases-emit_statements l = 3 * goal.size-emit_statements l + 1

abbrev pub invariant-emit_statements-loop-statement : goal.invariant-emit_statements-loop-statement
invariant-emit_statements-loop-statement l =
    with_statements l.draft (all_resolved l.names (loops_of l.loops) (statements_of (drop l.statement-index l.statements)))
    ≡ with_statements l.initial.draft (all_resolved l.names (loops_of l.loops) (statements_of l.statements))
