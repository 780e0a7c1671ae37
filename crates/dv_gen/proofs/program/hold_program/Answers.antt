use Rattle.std.proofs.Common.{◌∙◌, refl}
use Rattle.dv_syntax.specs.Trees.{expression_of}
use Rattle.dv_gen.proofs.Programs.{hold_fits, hold_written}
use Rattle.dv_gen.proofs.program.hold_program.Goals as goal

pub adopt-requires : goal.adopt-requires
adopt-requires c =
    let e = expression_of c.args.ticks.now in
    let written = hold_written c.args.names.now c.new-shape.result _ _ _ _ _ _ c.finish.result.items c.new-shape.ensures
    c.in_ok-try_clone.ensures
    c.requires.tables c.new-draft.ensures c.in_ok-push.ensures c.finish.ensures.instructions e refl c.in_ok-emit_expression.ensures.code in
    hold_fits c.args.names.now _ c.requires.small c.finish.ensures.short c.generated_programs_are_valid.ensures.hold e c.requires.ticks
    written

pub returns : goal.returns
returns c =
    c.adopt.ensures
    ∙ hold_written c.args.names.now c.new-shape.result _ _ _ _ _ _ c.finish.result.items c.new-shape.ensures c.in_ok-try_clone.ensures
    c.requires.tables c.new-draft.ensures c.in_ok-push.ensures c.finish.ensures.instructions (expression_of c.args.ticks.now)
    refl c.in_ok-emit_expression.ensures.code
