use Rattle.std.proofs.Common.{◌∷◌, [], ◌++◌, ◌∙◌, ap}
use Rattle.dv_syntax.specs.Trees.{expression_of}
use Rattle.dv_code.specs.declared.instruction.Instruction.TheVariants.{Perform}
use Rattle.dv_gen.specs.Emission.{loops_of, with_statements}
use Rattle.dv_gen.specs.Resolution.{resolved}
use Rattle.dv_gen.proofs.Emission.{with_statements-Act}
use Rattle.dv_gen.proofs.statement.emit_action.Goals as goal

pub returns : goal.returns
returns c = λ rest.
    let value = resolved c.args.names.now (loops_of c.args.loops.now) (expression_of c.args.value.now) in
    let written = c.in_ok-push.ensures ∙ ap (λ code. code ++ Perform c.args.action ∷ []) c.in_ok-emit_expression.ensures.code in
    ap (λ code. with_statements code rest) written ∙ with_statements-Act c.args.draft.now c.args.action value rest
