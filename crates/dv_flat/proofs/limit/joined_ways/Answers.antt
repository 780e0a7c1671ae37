use Rattle.dv_flat.specs.Ways.{joined_ways, part_ways}
use Rattle.dv_flat.proofs.Loops.{summed_up}
use Rattle.dv_flat.proofs.limit.joined_ways.Goals as goal

pub returns : goal.returns
returns c =
    let at = c.loop-coupling in
    let joined = joined_ways (part_ways c.args.below.now c.args.parts.now) c.args.outputs.now in
    summed_up joined c.args.couplings.now at.coupling-index at.ways at.invariant.kept at.invariant.summed c.loop-coupling-test.false
