use Rattle.std.proofs.Common.{◌∷◌, [], ◌++◌, ◌∙◌, ap, sym}
use Rattle.dv_code.specs.declared.instruction.Instruction.TheVariants.{Apply}
use Rattle.dv_gen.proofs.Emission.{with_expression-Prefix}
use Rattle.dv_gen.proofs.expression.emit_unary.Goals as goal

pub returns-clause-code : goal.returns-clause-code
returns-clause-code c = λ before operand so_far.
    c.in_ok-push.ensures
    ∙ ap (λ code. code ++ Apply c.args.unary ∷ []) so_far
    ∙ sym (with_expression-Prefix before c.args.unary operand)
