use Rattle.dv_flat.proofs.LinkTotals.{copies_summed}
use Rattle.dv_flat.proofs.links.copies_of.Goals as goal

pub returns : goal.returns
returns g c =
    let at = c.loop-link in
    copies_summed c.args.links.now at.link-index at.copies at.invariant.kept at.invariant.summed c.loop-link-test.false
