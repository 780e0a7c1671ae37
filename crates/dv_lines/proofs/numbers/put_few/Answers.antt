use Rattle.std.proofs.Common.{arith}
use Rattle.itoa.proofs.Decimal.{decimal_pair}
use Rattle.dv_lines.proofs.Behind.{put_behind}
use Rattle.dv_lines.proofs.numbers.put_few.Goals as goal

pub returns-clause-text : goal.returns-clause-text
returns-clause-text c =
    put_behind c.put_pair.result _ _ _ _ _ _ c.args.at c.in_ok-at.at c.in_ok-at.ensures.text
    (decimal_pair c.args.n (omega (arith, c.if-n-lt100.false)) (omega (arith, c.requires.few))) c.put_pair.ensures.text
