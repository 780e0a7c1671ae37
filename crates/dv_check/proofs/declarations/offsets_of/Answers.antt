use Rattle.std.proofs.Common.{ap}
use Rattle.dv_check.specs.Rules.{number_of_declaration, offset_of_declaration}
use Rattle.dv_check.proofs.Firsts.{first_of_step_itself}
use Rattle.dv_check.proofs.declarations.offsets_of.Goals as goal

pub loop-declaration-preserved : goal.loop-declaration-preserved
loop-declaration-preserved c =
    first_of_step_itself number_of_declaration offset_of_declaration c.args.declarations.now c.loop-declaration.declaration-index
    c.declaration-item.result _ _ _ _ c.loop-declaration-test.true c.declaration-item.is
    (ap (λ n. n.number) c.name_of_declaration-name.ensures) (ap (λ n. n.offset) c.name_of_declaration-name.ensures)
    c.loop-declaration.invariant c.in_ok-add.ensures.added
