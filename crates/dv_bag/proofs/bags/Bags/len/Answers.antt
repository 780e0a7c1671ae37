use Rattle.std.proofs.Common.{length, sym, ap, ◌∙◌}
use Rattle.dv_bag.specs.Bags.{bag_in}
use Rattle.dv_bag.proofs.PortBags.{from_port_length}
use Rattle.dv_bag.proofs.bags.Bags.len.Goals as goal

pub returns : goal.returns
returns c =
    sym (from_port_length 0 c.self.inside.ports (λ port. bag_in port c.self.inside.held.items)) ∙ ap length c.self.view_is
