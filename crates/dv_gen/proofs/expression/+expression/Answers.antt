use Rattle.std.proofs.Common.{◌∷◌, [], ◌++◌, ◌∙◌, ap, sym}
use Rattle.dv_syntax.specs.Trees.{expression_of}
use Rattle.dv_code.specs.declared.instruction.Instruction.TheVariants.{Combine}
use Rattle.dv_gen.specs.Emission.{junction, loops_of, with_expression}
use Rattle.dv_gen.specs.Resolution.{resolved}
use Rattle.dv_gen.proofs.Emission.{jump_within, with_expression-And, with_expression-Infix, with_expression-Or}
use Rattle.dv_gen.proofs.expression.+expression.Goals as goal

pub emit_second-replace-requires : goal.emit_second-replace-requires
emit_second-replace-requires t c =
    jump_within c.args.draft.now _ c.emit_expression.new.draft _ _ c.address-jump.ensures _ c.in_ok-push-in-IfTrue.ensures
    c.in_ok-emit_expression-in-IfTrue.ensures.code

pub emit_second-replace-requires-in-IfFalse : goal.emit_second-replace-requires-in-IfFalse
emit_second-replace-requires-in-IfFalse t c =
    jump_within c.args.draft.now _ c.emit_expression-in-IfFalse.new.draft _ _ c.address-jump.ensures _ c.in_ok-push-in-IfFalse.ensures
    c.in_ok-emit_expression-in-IfFalse.ensures.code

pub emit_second-returns-in_ok-emit_expression-in-IfTrue-clause-code :
    goal.emit_second-returns-in_ok-emit_expression-in-IfTrue-clause-code
emit_second-returns-in_ok-emit_expression-in-IfTrue-clause-code t c = λ before left so_far.
    let right = resolved c.args.names.now (loops_of c.args.loops.now) (expression_of c.args.right.now) in
    let whole = with_expression-And before c.args.draft.now _ c.emit_expression.new.draft _ _ _ _ left right so_far c.address-jump.ensures
    c.in_ok-push-in-IfTrue.ensures c.in_ok-emit_expression-in-IfTrue.ensures.code c.address.ensures c.replace.ensures in
    whole ∙ ap (λ j. with_expression before (junction j left right)) (sym c.in-IfTrue.is)

pub emit_second-returns-in_ok-emit_expression-in-IfFalse-clause-code :
    goal.emit_second-returns-in_ok-emit_expression-in-IfFalse-clause-code
emit_second-returns-in_ok-emit_expression-in-IfFalse-clause-code t c = λ before left so_far.
    let right = resolved c.args.names.now (loops_of c.args.loops.now) (expression_of c.args.right.now) in
    let whole = with_expression-Or before c.args.draft.now _ c.emit_expression-in-IfFalse.new.draft _ _ _ _ left right so_far
    c.address-jump.ensures
    c.in_ok-push-in-IfFalse.ensures c.in_ok-emit_expression-in-IfFalse.ensures.code c.address-in-IfFalse.ensures
    c.replace-in-IfFalse.ensures in
    whole ∙ ap (λ j. with_expression before (junction j left right)) (sym c.in-IfFalse.is)

pub emit_second-returns-in_ok-push-in-Operation-clause-code : goal.emit_second-returns-in_ok-push-in-Operation-clause-code
emit_second-returns-in_ok-push-in-Operation-clause-code t c = λ before left so_far.
    let right = resolved c.args.names.now (loops_of c.args.loops.now) (expression_of c.args.right.now) in
    let operation = c.in-Operation.operation in
    c.in_ok-push-in-Operation.ensures
    ∙ ap (λ code. code ++ Combine operation ∷ []) (c.in_ok-emit_expression-in-Operation.ensures.code
    ∙ ap (λ code. with_expression code right) so_far)
    ∙ sym (with_expression-Infix before operation left right)
    ∙ ap (λ j. with_expression before (junction j left right)) (sym c.in-Operation.is)
