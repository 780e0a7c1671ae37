use Rattle.std.proofs.Common.{◌∷◌, ◌∙◌, refl}
use Rattle.dv_code.specs.Known.{operand_type}
use Rattle.dv_code.specs.Valid.{mark}
use Rattle.dv_valid.specs.Nests.{bodies}
use Rattle.dv_valid.specs.Marks.{meaning}
use Rattle.dv_valid.proofs.Tops.{below_top, on_top}
use Rattle.dv_valid.proofs.marks.Marks.combine_agrees.Goals as goal

pub returns-in_default : goal.returns-in_default
returns-in_default c =
    let nest = bodies c.args.here.nest in
    let operand = operand_type c.args.binary in
    let only = c.in_default.ensures.only in
    let type = c.operand_type.ensures in
    λ shape. (
      λ t. absurd (cc),
      λ a. absurd (only (mark (operand ∷ a.0) nest) (on_top c.operand_type.result _ _ (operand ∷ a.0) nest a.1 type)),
    )

pub returns-in_default-without_top : goal.returns-in_default-without_top
returns-in_default-without_top c =
    let stacks = c.args.self.now.stacks in
    let nest = bodies c.args.here.nest in
    let operand = operand_type c.args.binary in
    let here = meaning stacks c.args.here in
    let one = meaning stacks c.in-Some.one in
    let only = c.in_default-without_top.ensures.only in
    λ shape. (
      λ t. absurd (cc),
      λ a. let rest = below_top c.operand_type.result operand (operand ∷ a.0) here one c.in-Some.ensures.below a.1 in
          let top = on_top c.operand_type-2.result operand (operand ∷ a.0) a.0 nest refl c.operand_type-2.ensures in
          absurd (only (mark a.0 nest) (rest ∙ top)),
    )
