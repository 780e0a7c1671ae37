use Rattle.std.proofs.Common.{◌<◌, arith}
use Rattle.dv_lines.proofs.Behind.{put_behind}
use Rattle.dv_lines.proofs.Stamps.{by_last_four}
use Rattle.dv_lines.proofs.stamp.put_tick.Goals as goal

pub returns-clause-text : goal.returns-clause-text
returns-clause-text c =
    let to = c.args.to.now in
    let some : 0 < c.args.front = omega (arith, c.if-front-eq0.false) in
    put_behind c.put_four.result to to _ _ _ _ 0 c.args.front (omega (arith, c.if-front-to.false), c.requires.there some)
    (by_last_four c.args.tick (c.requires.long some) c.ranges.tick.fits) c.put_four.ensures.text
