use Rattle.dv_code.specs.Valid.{mark}
use Rattle.dv_valid.specs.Nests.{bodies}
use Rattle.dv_valid.proofs.Tops.{on_top}
use Rattle.dv_valid.proofs.marks.Marks.perform_agrees.Goals as goal

pub returns-in_default : goal.returns-in_default
returns-in_default c =
    let nest = bodies c.args.here.nest in
    let only = c.in_default.ensures.only in
    let type = c.action_type.ensures in
    (λ t. absurd (cc), λ a. absurd (only (mark a.0 nest) (on_top c.action_type.result _ _ a.0 nest a.1 type)))
