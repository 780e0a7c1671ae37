use Rattle.std.proofs.Common.{refl, sym, ◌∙◌}
use Rattle.dv_check.proofs.Firsts.{parts_none, parts_step}
use Rattle.dv_check.proofs.parts.directory_of.Goals as goal

pub loop-part-init : goal.loop-part-init
loop-part-init c = c.in_ok-directory.ensures ∙ sym parts_none

pub loop-part-preserved : goal.loop-part-preserved
loop-part-preserved c =
    parts_step c.args.parts.now c.loop-part.part-index _ _ _ _ _ c.loop-part-test.true refl refl c.loop-part.invariant
    c.in_ok-add.ensures.added
