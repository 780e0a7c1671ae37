use Rattle.dv_lines.proofs.Digits.{pair_there}
use Rattle.dv_lines.proofs.numbers.two_digits.Goals as goal

pub returns : goal.returns
returns c = let p = pair_there c.args.n c.requires in rw (p.0, p.1)
