use Rattle.std.proofs.Common.{ap, sym, ◌∙◌, subst}
use Rattle.dv_valid.specs.Marks.{Settles, meaning, with_top}
use Rattle.dv_valid.proofs.marks.mark_before.Goals as goal

pub returns-in-Push-clause-only : goal.returns-in-Push-clause-only
returns-in-Push-clause-only c =
    let after = meaning c.args.stacks.now c.args.after in
    λ here shallow s. c.without_top.ensures.only here
    (subst (λ i. Settles c.args.next i here after) c.in-Push.is s ∙ ap (λ t. with_top t here) (sym c.leaf_type.ensures))
