use Rattle.std.proofs.Common.{◌≡◌, ◌+◌, ◌-◌, ◌*◌, ℤ, drop}
use Rattle.dv_syntax.specs.Trees.{statements_of}
use Rattle.dv_bag.specs.Bag.{values_of}
use Rattle.dv_eval.specs.Steps.{repeated}
use Rattle.dv_eval.specs.Contexts.{context_of}
use Rattle.dv_eval.specs.Meaning.{in_loop, repetition, run}
use Rattle.dv_eval.proofs.rule.+run.Given as goal

abbrev pub decreases-run_statement : goal.decreases-run_statement
decreases-run_statement l = 4 * goal.size-run_statement l

abbrev pub decreases-run_loop : goal.decreases-run_loop
decreases-run_loop l = 4 * goal.size-run_loop l + 3

abbrev pub decreases-run_copies : goal.decreases-run_copies
decreases-run_copies l = 4 * goal.size-run_copies l + 2

abbrev pub decreases-run : goal.decreases-run
decreases-run l = 4 * goal.size-run l + 1

abbrev pub invariant-run-loop-statement : goal.invariant-run-loop-statement
invariant-run-loop-statement l =
    run l.scope (context_of l.context) (statements_of (drop l.statement-index l.statements)) l.effect
    ≡ run l.scope (context_of l.context) (statements_of l.statements) l.fn.effect

abbrev pub invariant-run_loop-loop-pair : goal.invariant-run_loop-loop-pair
invariant-run_loop-loop-pair l =
    let step = λ (n : ℤ). run l.scope (in_loop (l.variable, n) (context_of l.context)) (statements_of l.block) in
    repetition step (values_of (drop l.pair-index l.pairs)) l.effect ≡ repetition step (values_of l.pairs) l.fn.effect

abbrev pub invariant-run_copies-loop : goal.invariant-run_copies-loop
invariant-run_copies-loop l =
    let step = run l.scope (context_of l.context) (statements_of l.block) in
    repeated step (l.copies - l.counter) l.effect ≡ repeated step l.copies l.fn.effect
