use Rattle.std.proofs.Common.{refl}
use Rattle.dv_code.specs.Valid.{mark}
use Rattle.dv_valid.specs.Nests.{bodies}
use Rattle.dv_valid.proofs.Tops.{on_top}
use Rattle.dv_valid.proofs.marks.Marks.jump_false_agrees.Goals as goal

pub returns-in_default : goal.returns-in_default
returns-in_default c =
    let nest = bodies c.args.here.nest in
    λ shape. (λ t. absurd (cc), λ a. absurd (c.in_default.ensures.only (mark a.0 nest) (on_top _ _ _ a.0 nest a.1 refl)))
