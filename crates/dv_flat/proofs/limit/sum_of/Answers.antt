use Rattle.dv_flat.proofs.Loops.{summed_up}
use Rattle.dv_flat.proofs.limit.sum_of.Goals as goal

pub returns : goal.returns
returns c =
    let at = c.loop-more in
    summed_up (λ n. n) c.args.ways.now at.more-index at.sum at.invariant.kept at.invariant.summed c.loop-more-test.false
