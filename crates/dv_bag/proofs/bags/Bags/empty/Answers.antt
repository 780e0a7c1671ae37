use Rattle.std.proofs.Common.{ap, ◌∙◌}
use Rattle.dv_bag.specs.Bags.{by_port}
use Rattle.dv_bag.proofs.PortBags.{nothing_from}
use Rattle.dv_bag.proofs.bags.Bags.empty.Goals as goal

pub returns : goal.returns
returns c = ap (by_port c.args.ports) c.new.ensures.items ∙ nothing_from 0 c.args.ports
