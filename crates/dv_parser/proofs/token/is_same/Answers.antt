use Rattle.std.proofs.Common.{arith, rules}
use Rattle.dv_parser.proofs.Tokens.{same_kind_decided}
use Rattle.dv_parser.proofs.token.is_same.Goals as goal

pub returns : goal.returns
returns c = same_kind_decided c.eq.result c.args.first c.args.second (grind (arith, rules) steps 30000000)
