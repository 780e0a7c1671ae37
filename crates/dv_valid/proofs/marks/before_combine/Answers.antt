use Rattle.std.proofs.Common.{◌∷◌, ap, sym, ◌∙◌}
use Rattle.dv_code.specs.Valid.{mark}
use Rattle.dv_valid.proofs.marks.before_combine.Goals as goal

pub returns-in_default-clause-only : goal.returns-in_default-clause-only
returns-in_default-clause-only c =
    let type = sym c.result_type.ensures in
    λ below here e f. c.in_default.ensures.only (mark below here.nest) (f ∙ ap (λ t. mark (t ∷ below) here.nest) type)
