use Rattle.std.proofs.Common.{◌/◌, ◌++◌, arith, refl}
use Rattle.dv_lines.specs.Digits.{last_four}
use Rattle.dv_lines.proofs.Behind.{put_behind}
use Rattle.dv_lines.proofs.Digits.{by_last_eight}
use Rattle.dv_lines.proofs.Stamps.{by_last_four}
use Rattle.dv_lines.proofs.numbers.put_many.Goals as goal

pub returns-then-front-lt10000-clause-text : goal.returns-then-front-lt10000-clause-text
returns-then-front-lt10000-clause-text c =
    put_behind c.put_four.result _ _ _ _ _ _ c.args.at c.in_ok-at.at c.in_ok-at.ensures.text
    (by_last_four c.args.n (omega (arith, c.requires.many)) c.ranges.n.fits) c.put_four.ensures.text

pub returns-clause-text : goal.returns-clause-text
returns-clause-text c =
    let n = c.args.n in
    let eight = by_last_eight n (omega (arith, c.if-front-lt10000.false)) c.ranges.n.fits in
    put_behind c.put_four-3.result _ _ _ _ _ _ c.args.at c.in_ok-at-2.at c.in_ok-at-2.ensures.text eight
    (put_behind c.put_four-3.result _ _ _ _ _ (last_four (n / 10000) ++ last_four n) c.in_ok-at-2.at c.in_ok-at-3.at
    c.in_ok-at-3.ensures.text refl c.put_four-3.ensures.text)
