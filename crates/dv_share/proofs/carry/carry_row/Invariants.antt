use Rattle.std.proofs.Common.{◌≡◌, ◌++◌, ◌≤◌, ◌-◌, length}
use Rattle.dv_share.specs.Links.{deliveries_of, links_of}
use Rattle.dv_share.proofs.Ports.{ArePartedAt, carried_below, next_port}
use Rattle.dv_share.proofs.carry.carry_row.Given as goal

-- what the links carry that lead from a port before the next one
abbrev pub invariant-loop-start : goal.invariant-loop-start
invariant-loop-start l = record {
  within : l.start ≤ length l.sendings;
  parted : ArePartedAt (λ s. s.port) l.sendings l.start;
  carried :
      deliveries_of l.deliveries.items
      ≡ deliveries_of l.fn.deliveries.items ++ carried_below l.sent (next_port (λ s. s.port) l.sendings l.start) (links_of l.links);
}

abbrev pub decreases-loop-start : goal.decreases-loop-start
decreases-loop-start l = length l.sendings - l.start
