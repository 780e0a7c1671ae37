use Rattle.std.proofs.Common.{◌++◌, refl, sym, ap, ◌∙◌}
use Rattle.dv_syntax.specs.Trees.{If, IfElse, For, expression_of, statement_before, statements_of}
use Rattle.law_accepted.specs.Gotos.{gotos_in}
use Rattle.dv_bag.specs.Responses.{ticks_of}
use Rattle.dv_bound.specs.Soonest.{entries_in, response_in}
use Rattle.dv_bound.proofs.Soonest.{soonest_rest}
use Rattle.dv_bound.proofs.lookahead.+gotos.Goals as goal

pub soonest_of_statement-returns-in-If : goal.soonest_of_statement-returns-in-If
soonest_of_statement-returns-in-If t c = λ rest.
    let offset = c.in-If.offset in
    let e = c.in-If.condition in
    let tree =
    ap (λ s. statement_before s rest) c.in-If.is
    ∙ c.trees_keep_blocks.ensures.alone offset e c.in-If.then_block rest
    ∙ ap (λ items. If offset (expression_of e) (statements_of items) rest) (sym c.deref.ensures.value) in
    soonest_rest (response_in (entries_in c.args.responses.now)) (ticks_of c.args.so_far) (ticks_of c.soonest_of_statements.result)
    (gotos_in (statements_of c.deref.result.now)) (gotos_in rest) _ c.soonest_of_statements.ensures (ap gotos_in tree)

pub soonest_of_statement-returns-in-IfElse : goal.soonest_of_statement-returns-in-IfElse
soonest_of_statement-returns-in-IfElse t c = λ rest.
    let offset = c.in-IfElse.offset in
    let e = c.in-IfElse.condition in
    let one = statements_of c.deref-in-IfElse.result.now in
    let other = statements_of c.deref-in-IfElse-2.result.now in
    let tree =
    ap (λ s. statement_before s rest) c.in-IfElse.is
    ∙ c.trees_keep_blocks.ensures.with_else offset e c.in-IfElse.then_block c.in-IfElse.else_block rest
    ∙ ap (λ items. IfElse offset (expression_of e) (statements_of items) (statements_of c.in-IfElse.else_block.statements.items) rest)
    (sym c.deref-in-IfElse.ensures.value)
    ∙ ap (λ items. IfElse offset (expression_of e) one (statements_of items) rest) (sym c.deref-in-IfElse-2.ensures.value) in
    let response = response_in (entries_in c.args.responses.now) in
    let now = ticks_of c.soonest_of_statements-so_far.result in
    soonest_rest response now (ticks_of c.soonest_of_statements-in-IfElse.result) (gotos_in other) (gotos_in rest) _
    c.soonest_of_statements-in-IfElse.ensures refl
    ∙ soonest_rest response (ticks_of c.args.so_far) now (gotos_in one) (gotos_in other ++ gotos_in rest) _
    c.soonest_of_statements-so_far.ensures (ap gotos_in tree)

pub soonest_of_statement-returns-in-For : goal.soonest_of_statement-returns-in-For
soonest_of_statement-returns-in-For t c = λ rest.
    let offset = c.in-For.offset in
    let v = c.in-For.variable in
    let bag = c.in-For.bag in
    let tree =
    ap (λ s. statement_before s rest) c.in-For.is
    ∙ c.trees_keep_blocks.ensures.repeated offset v bag c.in-For.block rest
    ∙ ap (λ items. For offset v bag (statements_of items) rest) (sym c.deref-in-For.ensures.value) in
    soonest_rest (response_in (entries_in c.args.responses.now)) (ticks_of c.args.so_far) (ticks_of c.soonest_of_statements-in-For.result)
    (gotos_in (statements_of c.deref-in-For.result.now)) (gotos_in rest) _ c.soonest_of_statements-in-For.ensures (ap gotos_in tree)
