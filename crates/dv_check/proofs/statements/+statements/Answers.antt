use Rattle.std.proofs.Common.{ap, sym, ◌∙◌}
use Rattle.dv_syntax.specs.Trees.{If, IfElse, For, expression_of, statement_before, statements_of}
use Rattle.dv_check.specs.Rules.{known_at}
use Rattle.dv_check.proofs.Blocks.{known_at-Loop, with_refusals-For, with_refusals-If, with_refusals-IfElse}
use Rattle.dv_check.proofs.statements.+statements.Goals as goal

pub check_statement-returns-in-If : goal.check_statement-returns-in-If
check_statement-returns-in-If t c = λ rest.
    let offset = c.in-If.offset in
    let e = c.in-If.condition in
    let tree =
    ap (λ s. statement_before s rest) c.in-If.is
    ∙ c.trees_keep_blocks.ensures.alone offset e c.in-If.then_block rest
    ∙ ap (λ items. If offset (expression_of e) (statements_of items) rest) (sym c.deref.ensures.value) in
    with_refusals-If (known_at c.args.environment.now) c.args.found.now _ _ c.args.statement.now offset (expression_of e)
    (statements_of c.deref.result.now) rest tree c.check_offset-in-If.ensures c.check_statements.ensures

pub check_statement-returns-in-IfElse : goal.check_statement-returns-in-IfElse
check_statement-returns-in-IfElse t c = λ rest.
    let offset = c.in-IfElse.offset in
    let e = c.in-IfElse.condition in
    let tree =
    ap (λ s. statement_before s rest) c.in-IfElse.is
    ∙ c.trees_keep_blocks.ensures.with_else offset e c.in-IfElse.then_block c.in-IfElse.else_block rest
    ∙ ap
    (λ items.
    IfElse offset (expression_of e) (statements_of items) (statements_of c.in-IfElse.else_block.statements.items) rest)
    (sym c.deref-in-IfElse.ensures.value)
    ∙ ap (λ items. IfElse offset (expression_of e) (statements_of c.deref-in-IfElse.result.now) (statements_of items) rest)
    (sym c.deref-in-IfElse-2.ensures.value) in
    with_refusals-IfElse (known_at c.args.environment.now) c.args.found.now _ _ c.args.statement.now offset (expression_of e)
    (statements_of c.deref-in-IfElse.result.now) rest (statements_of c.deref-in-IfElse-2.result.now) _ tree
    c.check_offset-in-IfElse.ensures c.check_statements-in-IfElse.ensures c.check_statements-in-IfElse-2.ensures

pub check_statement-returns-in-For : goal.check_statement-returns-in-For
check_statement-returns-in-For t c = λ rest.
    let offset = c.in-For.offset in
    let v = c.in-For.variable in
    let bag = c.in-For.bag in
    let tree =
    ap (λ s. statement_before s rest) c.in-For.is
    ∙ c.trees_keep_blocks.ensures.repeated offset v bag c.in-For.block rest
    ∙ ap (λ items. For offset v bag (statements_of items) rest) (sym c.deref-in-For.ensures.value) in
    with_refusals-For (known_at c.args.environment.now) c.args.found.now _ _ _ c.args.statement.now offset v bag
    (statements_of c.deref-in-For.result.now) rest tree c.check_loop_variable.ensures c.check_held.ensures.found
    (rw (known_at-Loop v c.args.environment) at c.check_statements-in-For.ensures)
