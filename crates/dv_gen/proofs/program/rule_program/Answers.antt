use Rattle.std.proofs.Common.{◌∙◌}
use Rattle.dv_syntax.specs.Trees.{statements_of}
use Rattle.dv_gen.proofs.Programs.{rule_fits, rule_written}
use Rattle.dv_gen.proofs.program.rule_program.Goals as goal

pub adopt-requires : goal.adopt-requires
adopt-requires c =
    let body = statements_of c.args.statements.now in
    let written = rule_written c.args.names.now c.new-shape.result _ _ c.program_sort.result _ _ _ c.finish.result.items
    c.new-shape.ensures c.in_ok-try_clone.ensures
    c.requires.tables c.new-draft.ensures c.in_ok-push.ensures c.finish.ensures.instructions c.args.sort body c.program_sort.ensures
    c.in_ok-emit_statements.ensures in
    rule_fits c.args.names.now _ c.requires.small c.finish.ensures.short c.generated_programs_are_valid.ensures.rule c.args.sort body
    c.requires.body written

pub returns : goal.returns
returns c =
    c.adopt.ensures
    ∙ rule_written c.args.names.now c.new-shape.result _ _ c.program_sort.result _ _ _ c.finish.result.items c.new-shape.ensures
    c.in_ok-try_clone.ensures
    c.requires.tables c.new-draft.ensures c.in_ok-push.ensures c.finish.ensures.instructions c.args.sort
    (statements_of c.args.statements.now) c.program_sort.ensures
    c.in_ok-emit_statements.ensures
