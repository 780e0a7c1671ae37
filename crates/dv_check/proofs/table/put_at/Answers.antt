use Rattle.std.proofs.Common.{ap, ◌∙◌, if◌then◌else◌, ◌==◌, Some}
use Rattle.dv_check.proofs.Tables.{value_put}
use Rattle.dv_check.proofs.table.put_at.Goals as goal

pub returns : goal.returns
returns g c q =
    value_put c.lengthen.new.entries.items c.args.index c.args.value q c.in_ok-lengthen.ensures.reaches
    ∙ ap (λ o. if c.args.index == q then Some c.args.value else o) (c.lengthen.ensures.values q)
