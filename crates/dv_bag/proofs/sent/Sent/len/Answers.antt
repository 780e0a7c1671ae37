use Rattle.std.proofs.Common.{length, sym, ap, ◌∙◌}
use Rattle.dv_bag.proofs.Sendings.{from_port_length}
use Rattle.dv_bag.proofs.sent.Sent.len.Goals as goal

pub returns : goal.returns
returns c = sym (from_port_length 0 c.self.inside.ports c.self.inside.sendings.items) ∙ ap length c.self.view_is
