use Rattle.std.proofs.Common.{◌∷◌, [], ◌++◌, ◌∙◌, ap, sym, length, arith, rules}
use Rattle.std.proofs.lemmas.List.{drop_all}
use Rattle.std.proofs.lemmas.Bool.{eqb-false, eqb-true}
use Rattle.dv_syntax.specs.declared.tree.Stmt.{the_lemmas}
use Rattle.dv_syntax.specs.Grammar.{loop_depth}
use Rattle.dv_syntax.specs.Trees.{Done, expression_of, statement_before, statements_of}
use Rattle.dv_code.specs.declared.instruction.Instruction.TheVariants.{Do}
use Rattle.dv_gen.specs.Emission.{loops_of, with_statements}
use Rattle.dv_gen.specs.Resolution.{all_resolved, deed_of, resolved}
use Rattle.dv_gen.specs.Resolved.{For as Each}
use Rattle.dv_gen.proofs.Choices.{choice_of_none, choice_of_some, with_statements-choice}
use Rattle.dv_gen.proofs.Emission.{jump_behind_within, jump_within_block, jump_within_more, still_within, with_branch-is}
use Rattle.dv_gen.proofs.Emission.{with_statements-Done, with_statements-For, with_statements-If, with_statements-Obey}
use Rattle.dv_gen.proofs.Emission.{with_statements-When}
use Rattle.dv_gen.proofs.LoopDepth.{block_shallow, first_shallow, loop_depth-at, loop_shallow, other_shallow}
use Rattle.dv_gen.proofs.Trees.{choice_tree, loop_tree, when_tree}
use Rattle.dv_gen.proofs.statement.+statements.Goals as goal

pub emit_when-emit_statements-requires : goal.emit_when-emit_statements-requires
emit_when-emit_statements-requires t c = (search rules, omega arith)

pub emit_when-replace-requires : goal.emit_when-replace-requires
emit_when-replace-requires t c =
    jump_within_block c.emit_expression.new.draft _ c.emit_statements.new.draft _ _ c.address-test.ensures _ c.in_ok-push.ensures
    c.in_ok-emit_statements.ensures

pub emit_when-returns : goal.emit_when-returns
emit_when-returns t c =
    let condition = resolved c.args.names.now (loops_of c.args.loops.now) (expression_of c.args.condition.now) in
    let block = all_resolved c.args.names.now (loops_of c.args.loops.now) (statements_of c.args.block.now) in
    with_statements-When c.args.draft.now c.emit_expression.new.draft c.push.new.self c.emit_statements.new.draft _ _ _ _
    condition block
    c.in_ok-emit_expression.ensures.code c.address-test.ensures c.in_ok-push.ensures c.in_ok-emit_statements.ensures c.address.ensures
    c.replace.ensures

pub emit_loop-replace-requires : goal.emit_loop-replace-requires
emit_loop-replace-requires t c =
    let within = jump_within_block c.args.draft.now _ c.emit_statements.new.draft _ _ c.address-entry.ensures _ c.in_ok-push.ensures
    c.in_ok-emit_statements.ensures in
    jump_within_more c.emit_statements.new.draft _ _ _ within c.in_ok-push-2.ensures

pub emit_loop-returns : goal.emit_loop-returns
emit_loop-returns t c =
    let block = all_resolved c.args.names.now (loops_of c.args.loops.now) (statements_of c.args.block.now) in
    with_statements-For c.args.draft.now c.push.new.self c.emit_statements.new.draft c.push-2.new.self _ _ _ _ _ c.args.source block
    c.address-entry.ensures c.in_ok-push.ensures c.address-first.ensures c.in_ok-emit_statements.ensures c.in_ok-push-2.ensures
    c.address.ensures c.replace.ensures

pub emit_first_block-replace-requires : goal.emit_first_block-replace-requires
emit_first_block-replace-requires t c =
    let within = jump_within_block c.emit_expression.new.draft _ c.emit_statements.new.draft _ _ c.address-test.ensures _
    c.in_ok-push.ensures c.in_ok-emit_statements.ensures in
    jump_within_more c.emit_statements.new.draft _ _ _ within c.in_ok-push-2.ensures

pub emit_first_block-returns-clause-code : goal.emit_first_block-returns-clause-code
emit_first_block-returns-clause-code t c =
    let condition = resolved c.args.names.now (loops_of c.args.loops.now) (expression_of c.args.condition.now) in
    let block = all_resolved c.args.names.now (loops_of c.args.loops.now) (statements_of c.args.block.now) in
    with_statements-If c.args.draft.now c.emit_expression.new.draft c.push.new.self c.emit_statements.new.draft c.push-2.new.self
    _ _ _ _
    _ _ condition block
    c.in_ok-emit_expression.ensures.code c.address-test.ensures c.in_ok-push.ensures c.in_ok-emit_statements.ensures
    c.address-jump.ensures
    c.in_ok-push-2.ensures
    c.address.ensures c.replace.ensures

pub emit_first_block-returns-clause-within : goal.emit_first_block-returns-clause-within
emit_first_block-returns-clause-within t c =
    jump_behind_within c.emit_statements.new.draft c.push-2.new.self _ _ _ _ _ c.address-jump.ensures c.in_ok-push-2.ensures
    c.replace.ensures

pub emit_other_block-returns : goal.emit_other_block-returns
emit_other_block-returns t c =
    with_branch-is c.args.draft.now c.emit_statements.new.draft _ _ _ _ c.in_ok-emit_statements.ensures c.address.ensures
    c.replace.ensures

pub emit_other_block-replace-requires : goal.emit_other_block-replace-requires
emit_other_block-replace-requires t c =
    still_within c.args.draft.now c.emit_statements.new.draft _ _ c.requires.within c.in_ok-emit_statements.ensures

pub emit_statement-emit_when-requires : goal.emit_statement-emit_when-requires
emit_statement-emit_when-requires t c =
    let tree =
    when_tree c.args.statement.now Done _ _ _ _ c.in-If.is (c.trees_keep_blocks.ensures.alone _ _ _ Done)
    c.deref.ensures.value in
    (search (rules, the_lemmas), block_shallow _ _ _ _ c.requires _ tree)

pub emit_statement-emit_when-requires-then-is_empty : goal.emit_statement-emit_when-requires-then-is_empty
emit_statement-emit_when-requires-then-is_empty t c =
    let tree =
    choice_tree c.args.statement.now Done _ _ _ _ _ _ c.in-IfElse.is (c.trees_keep_blocks.ensures.with_else _ _ _ _ Done)
    c.deref-first.ensures.value c.deref-other.ensures.value in
    (search (rules, the_lemmas), first_shallow _ _ _ _ c.requires _ _ tree)

pub emit_statement-emit_first_block-requires : goal.emit_statement-emit_first_block-requires
emit_statement-emit_first_block-requires t c =
    let tree =
    choice_tree c.args.statement.now Done _ _ _ _ _ _ c.in-IfElse.is (c.trees_keep_blocks.ensures.with_else _ _ _ _ Done)
    c.deref-first.ensures.value c.deref-other.ensures.value in
    (search (rules, the_lemmas), first_shallow _ _ _ _ c.requires _ _ tree)

pub emit_statement-emit_other_block-requires : goal.emit_statement-emit_other_block-requires
emit_statement-emit_other_block-requires t c =
    let tree =
    choice_tree c.args.statement.now Done _ _ _ _ _ _ c.in-IfElse.is (c.trees_keep_blocks.ensures.with_else _ _ _ _ Done)
    c.deref-first.ensures.value c.deref-other.ensures.value in
    (search (rules, the_lemmas), (other_shallow _ _ _ _ c.requires _ _ tree, c.in_ok-jump-in-IfElse.ensures.within))

pub emit_statement-emit_loop-requires : goal.emit_statement-emit_loop-requires
emit_statement-emit_loop-requires t c =
    let tree =
    loop_tree c.args.statement.now Done _ _ _ _ _ c.in-For.is (c.trees_keep_blocks.ensures.repeated _ _ _ _ Done)
    c.deref-in-For.ensures.value in
    (search (rules, the_lemmas), loop_shallow _ _ _ _ _ _ c.requires tree)

pub emit_statements-emit_statement-requires : goal.emit_statements-emit_statement-requires
emit_statements-emit_statement-requires t c =
    let s = c.statement-item.result in
    let deep = loop_depth-at c.args.statements.now c.loop-statement.statement-index s c.loop-statement-test.true in
    let same = ap (λ s. loop_depth (statement_before s Done)) c.statement-item.is in
    (search (rules, the_lemmas), omega (arith, c.requires, deep, same))

pub emit_statements-returns : goal.emit_statements-returns
emit_statements-returns t c =
    let scope = c.args.names.now in
    let loops = loops_of c.args.loops.now in
    let code = c.loop-statement.draft in
    sym (with_statements-Done code)
    ∙ ap (λ left. with_statements code (all_resolved scope loops (statements_of left)))
    (sym (drop_all c.loop-statement.statement-index c.args.statements.now c.loop-statement-test.false))
    ∙ c.loop-statement.invariant

pub emit_statement-returns-in_ok-push-in-Command : goal.emit_statement-returns-in_ok-push-in-Command
emit_statement-returns-in_ok-push-in-Command t c = λ rest.
    let scope = c.args.names.now in
    let loops = loops_of c.args.loops.now in
    let command = c.in-Command.command in
    let name = c.in-Command.name in
    let after = all_resolved scope loops rest in
    ap (λ code. with_statements code after)
    (c.in_ok-push-in-Command.ensures ∙ ap (λ d. c.args.draft.now ++ Do d ∷ []) c.deed.ensures)
    ∙ with_statements-Obey c.args.draft.now (deed_of scope command name.number) after
    ∙ ap (λ s. with_statements c.args.draft.now (all_resolved scope loops (statement_before s rest))) (sym c.in-Command.is)

pub emit_statement-returns-in_ok-emit_when-in-If : goal.emit_statement-returns-in_ok-emit_when-in-If
emit_statement-returns-in_ok-emit_when-in-If t c = λ rest.
    let scope = c.args.names.now in
    let loops = loops_of c.args.loops.now in
    let tree =
    when_tree c.args.statement.now rest _ _ _ _ c.in-If.is (c.trees_keep_blocks.ensures.alone _ _ _ rest)
    c.deref.ensures.value in
    c.in_ok-emit_when-in-If.ensures (all_resolved scope loops rest)
    ∙ ap (λ s. with_statements c.args.draft.now (all_resolved scope loops s)) (sym tree)

pub emit_statement-returns-in_ok-emit_loop-in-For : goal.emit_statement-returns-in_ok-emit_loop-in-For
emit_statement-returns-in_ok-emit_loop-in-For t c = λ rest.
    let scope = c.args.names.now in
    let loops = loops_of c.args.loops.now in
    let v = c.in-For.variable in
    let block = statements_of c.deref-in-For.result.now in
    let tree =
    loop_tree c.args.statement.now rest _ _ _ _ _ c.in-For.is (c.trees_keep_blocks.ensures.repeated _ _ _ _ rest)
    c.deref-in-For.ensures.value in
    c.in_ok-emit_loop-in-For.ensures (all_resolved scope loops rest)
    ∙ ap (λ source. with_statements c.args.draft.now
    (Each source (all_resolved scope (v.number ∷ loops) block) (all_resolved scope loops rest))) c.source.ensures
    ∙ ap (λ s. with_statements c.args.draft.now (all_resolved scope loops s)) (sym tree)

pub emit_statement-returns-in_ok-emit_when-in-IfElse : goal.emit_statement-returns-in_ok-emit_when-in-IfElse
emit_statement-returns-in_ok-emit_when-in-IfElse t c = λ rest.
    let scope = c.args.names.now in
    let loops = loops_of c.args.loops.now in
    let none = eqb-true (length c.deref-other.result.now) 0 (sym c.is_empty.ensures ∙ c.if-is_empty.true) in
    c.in_ok-emit_when-in-IfElse.ensures (all_resolved scope loops rest)
    ∙ with_statements-choice scope loops c.args.draft.now c.args.statement.now rest _ _ _ _ _ _ _ c.in-IfElse.is
    (c.trees_keep_blocks.ensures.with_else _ _ _ _ rest) c.deref-first.ensures.value c.deref-other.ensures.value
    (choice_of_none scope loops _ _ _ _ none)

pub emit_statement-returns-in_ok-emit_other_block-in-IfElse : goal.emit_statement-returns-in_ok-emit_other_block-in-IfElse
emit_statement-returns-in_ok-emit_other_block-in-IfElse t c = λ rest.
    let scope = c.args.names.now in
    let loops = loops_of c.args.loops.now in
    let other = c.deref-other.result.now in
    let after = all_resolved scope loops rest in
    let some = eqb-false (length other) 0 (sym c.is_empty.ensures ∙ c.if-is_empty.false) in
    ap (λ code. with_statements code after) c.in_ok-emit_other_block-in-IfElse.ensures
    ∙ c.in_ok-jump-in-IfElse.ensures.code (all_resolved scope loops (statements_of other)) after
    ∙ with_statements-choice scope loops c.args.draft.now c.args.statement.now rest _ _ _ _ _ _ _ c.in-IfElse.is
    (c.trees_keep_blocks.ensures.with_else _ _ _ _ rest) c.deref-first.ensures.value c.deref-other.ensures.value
    (choice_of_some scope loops _ _ _ _ some)
