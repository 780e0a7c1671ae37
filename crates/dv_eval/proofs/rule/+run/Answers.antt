use Rattle.std.proofs.Common.{◌≡◌, ℤ, pos, Ok, ap, sym, ◌∙◌, get_or, subst, true, false, rules, w64}
use Rattle.std.proofs.lemmas.Int.{to_z-of_z}
use Rattle.std.proofs.lemmas.Result.{err_from_is_err_and}
use Rattle.dv_syntax.specs.Trees.{Done, For, If, IfElse, expression_of, statement_before, statements_of}
use Rattle.dv_bag.specs.Bag.{values_of}
use Rattle.dv_bag.specs.Collections.{values_in}
use Rattle.dv_bag.specs.Outcome.{Fails, Gives}
use Rattle.dv_eval.specs.Steps.{repeated}
use Rattle.dv_eval.specs.Contexts.{context_of}
use Rattle.dv_eval.specs.Meaning.{collection_of_name, in_loop, moment_in, repetition, run}
use Rattle.dv_eval.proofs.Rules.{run-drop_ok, run-drop_err, run-If, run-IfElse, run-For, run-Assign, run-Change, run-Command, run-Send}
use Rattle.dv_eval.proofs.Rules.{repeated_fails, repeated_next, repetition_fails, repetition_next}
use Rattle.dv_eval.proofs.rule.+run.Goals as goal

pub run-returns-in_err-effect : goal.run-returns-in_err-effect
run-returns-in_err-effect t c =
    let p = err_from_is_err_and c.from_residual.result c.from_residual.ensures.1 in
    let at = c.loop-statement in
    let fails = run-drop_err c.args.scope.now (context_of c.args.context.now) c.args.statements.now at.statement-index
    c.statement-item.result at.effect _ c.in_err-effect.field-0.0 c.loop-statement-test.true c.statement-item.is at.invariant
    c.in_err-effect.ensures in
    rw (p.1, p.2) fails

pub run-loop-statement-preserved : goal.run-loop-statement-preserved
run-loop-statement-preserved t c =
    let at = c.loop-statement in
    run-drop_ok c.args.scope.now (context_of c.args.context.now) c.args.statements.now at.statement-index c.statement-item.result
    at.effect c.in_ok-effect.effect _ c.loop-statement-test.true c.statement-item.is at.invariant c.in_ok-effect.ensures

pub run_statement-returns-then-truth_of : goal.run_statement-returns-then-truth_of
run_statement-returns-then-truth_of t c =
    let offset = c.in-If.offset in
    let e = c.in-If.condition in
    let block = statements_of c.deref.result.now in
    let tree =
    ap (λ s. statement_before s Done) c.in-If.is
    ∙ c.trees_keep_blocks.ensures.alone offset e c.in-If.then_block Done
    ∙ ap (λ items. If offset (expression_of e) (statements_of items) Done) (sym c.deref.ensures.value) in
    let holds = sym c.truth_of.ensures ∙ c.if-truth_of.true in
    let value = c.in_ok-condition-in-If in
    let taken = run-If c.args.scope.now (context_of c.args.context.now) c.args.statement.now offset c.args.effect (expression_of e) block
    value.condition tree (sym value.ensures) holds in
    subst (Gives c.run.result) (sym taken) c.run.ensures

pub run_statement-returns-then-truth_of-2 : goal.run_statement-returns-then-truth_of-2
run_statement-returns-then-truth_of-2 t c =
    let offset = c.in-IfElse.offset in
    let e = c.in-IfElse.condition in
    let block = statements_of c.deref-then-truth_of-2.result.now in
    let other = statements_of c.in-IfElse.else_block.statements.items in
    let tree =
    ap (λ s. statement_before s Done) c.in-IfElse.is
    ∙ c.trees_keep_blocks.ensures.with_else offset e c.in-IfElse.then_block c.in-IfElse.else_block Done
    ∙ ap (λ items. IfElse offset (expression_of e) (statements_of items) other Done) (sym c.deref-then-truth_of-2.ensures.value) in
    let holds = sym c.truth_of-in-IfElse.ensures ∙ c.if-truth_of-2.true in
    let value = c.in_ok-condition-in-IfElse in
    let taken = run-IfElse c.args.scope.now (context_of c.args.context.now) c.args.statement.now offset c.args.effect (expression_of e) block
    other value.condition true tree (sym value.ensures) holds in
    subst (Gives c.run-then-truth_of-2.result) (sym taken) c.run-then-truth_of-2.ensures

pub run_statement-returns-else-truth_of-2 : goal.run_statement-returns-else-truth_of-2
run_statement-returns-else-truth_of-2 t c =
    let offset = c.in-IfElse.offset in
    let e = c.in-IfElse.condition in
    let block = statements_of c.in-IfElse.then_block.statements.items in
    let other = statements_of c.deref-else-truth_of-2.result.now in
    let tree =
    ap (λ s. statement_before s Done) c.in-IfElse.is
    ∙ c.trees_keep_blocks.ensures.with_else offset e c.in-IfElse.then_block c.in-IfElse.else_block Done
    ∙ ap (λ items. IfElse offset (expression_of e) block (statements_of items) Done) (sym c.deref-else-truth_of-2.ensures.value) in
    let fails = sym c.truth_of-in-IfElse.ensures ∙ c.if-truth_of-2.false in
    let value = c.in_ok-condition-in-IfElse in
    let taken = run-IfElse c.args.scope.now (context_of c.args.context.now) c.args.statement.now offset c.args.effect (expression_of e) block
    other value.condition false tree (sym value.ensures) fails in
    subst (Gives c.run-else-truth_of-2.result) (sym taken) c.run-else-truth_of-2.ensures

pub run_copies-returns-in_err-effect : goal.run_copies-returns-in_err-effect
run_copies-returns-in_err-effect t c =
    let p = err_from_is_err_and c.from_residual.result c.from_residual.ensures.1 in
    let step = run c.args.scope.now (context_of c.args.context.now) (statements_of c.args.block.now) in
    let fails = repeated_fails step c.args.copies c.loop.counter c.loop.effect _ c.loop-test.true c.loop.invariant
    c.in_err-effect.field-0.0 c.in_err-effect.ensures in
    rw (p.1, p.2) fails

pub run_copies-loop-preserved : goal.run_copies-loop-preserved
run_copies-loop-preserved t c =
    let step = run c.args.scope.now (context_of c.args.context.now) (statements_of c.args.block.now) in
    repeated_next step c.args.copies c.loop.counter c.loop.effect _ c.loop-test.true c.loop.invariant c.in_ok-effect.effect
    c.in_ok-effect.ensures

pub run_loop-returns-in_err-effect : goal.run_loop-returns-in_err-effect
run_loop-returns-in_err-effect t c =
    let p = err_from_is_err_and c.from_residual.result c.from_residual.ensures.1 in
    let step =
    λ (n : ℤ).
    run c.args.scope.now (in_loop (c.args.variable, n) (context_of c.args.context.now))
    (statements_of c.args.block.now) in
    let at = c.loop-pair in
    let pair = get_or c.args.pairs.now at.pair-index (pos 0, 0) in
    let error = c.in_err-effect.field-0.0 in
    let number = to_z-of_z w64 pair.0 (search rules) in
    let failed = subst (λ (n : ℤ). Fails error (repeated (step n) pair.1 at.effect)) number c.in_err-effect.ensures in
    let fails = repetition_fails step c.args.pairs.now at.pair-index at.effect _ c.loop-pair-test.true at.invariant error failed in
    rw (p.1, p.2) fails

pub run_loop-loop-pair-preserved : goal.run_loop-loop-pair-preserved
run_loop-loop-pair-preserved t c =
    let step =
    λ (n : ℤ).
    run c.args.scope.now (in_loop (c.args.variable, n) (context_of c.args.context.now))
    (statements_of c.args.block.now) in
    let at = c.loop-pair in
    let pair = get_or c.args.pairs.now at.pair-index (pos 0, 0) in
    let next = c.in_ok-effect.effect in
    let number = to_z-of_z w64 pair.0 (search rules) in
    let done = subst (λ (n : ℤ). repeated (step n) pair.1 at.effect ≡ Ok next) number c.in_ok-effect.ensures in
    repetition_next step c.args.pairs.now at.pair-index at.effect _ c.loop-pair-test.true at.invariant next done

pub run_statement-returns-in_ok-pairs-in-For : goal.run_statement-returns-in_ok-pairs-in-For
run_statement-returns-in_ok-pairs-in-For t c =
    let offset = c.in-For.offset in
    let v = c.in-For.variable in
    let b = c.in-For.bag in
    let block = statements_of c.deref-in-For-2.result.now in
    let scope = c.args.scope.now in
    let context = context_of c.args.context.now in
    let tree =
    ap (λ s. statement_before s Done) c.in-For.is
    ∙ c.trees_keep_blocks.ensures.repeated offset v b c.in-For.block Done
    ∙ ap (λ items. For offset v b (statements_of items) Done) (sym c.deref-in-For-2.ensures.value) in
    let walked :
    values_of c.deref-in-For.result.now
    ≡ values_in (collection_of_name scope (moment_in context c.args.effect.state) b.number) =
    ap values_of c.deref-in-For.ensures.value ∙ c.in_ok-pairs-in-For.ensures in
    let whole =
    ap (λ values. repetition (λ n. run scope (in_loop (v.number, n) context) block) values c.args.effect) walked
    ∙ sym (run-For scope context c.args.statement.now offset c.args.effect v b block tree) in
    subst (Gives c.run_loop.result) whole c.run_loop.ensures

pub run_statement-returns-in-Command : goal.run_statement-returns-in-Command
run_statement-returns-in-Command t c =
    let whole = run-Command c.args.scope.now (context_of c.args.context.now) c.args.statement.now c.in-Command.offset c.args.effect
    c.in-Command.command c.in-Command.name c.in-Command.is in
    subst (Gives c.obey.result) (sym whole) c.obey.ensures

pub run_statement-returns-in-Change : goal.run_statement-returns-in-Change
run_statement-returns-in-Change t c =
    let whole = run-Change c.args.scope.now (context_of c.args.context.now) c.args.statement.now c.in-Change.offset c.args.effect
    c.in-Change.change c.in-Change.value c.in-Change.collection c.in-Change.is in
    subst (Gives c.edit_by_value.result) (sym whole) c.edit_by_value.ensures

pub run_statement-returns-in-Assign : goal.run_statement-returns-in-Assign
run_statement-returns-in-Assign t c =
    let whole = run-Assign c.args.scope.now (context_of c.args.context.now) c.args.statement.now c.args.effect c.in-Assign.variable
    c.in-Assign.value c.in-Assign.is in
    subst (Gives c.assign_value.result) (sym whole) c.assign_value.ensures

pub run_statement-returns-in-Send : goal.run_statement-returns-in-Send
run_statement-returns-in-Send t c =
    let whole = run-Send c.args.scope.now (context_of c.args.context.now) c.args.statement.now c.in-Send.offset c.args.effect c.in-Send.port
    c.in-Send.value c.in-Send.is in
    subst (Gives c.send_value.result) (sym whole) c.send_value.ensures
