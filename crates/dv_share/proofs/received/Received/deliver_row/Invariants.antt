use Rattle.std.proofs.Common.{◌≤◌, ◌-◌, length}
use Rattle.dv_share.specs.Links.{links_of}
use Rattle.dv_share.specs.Received.{HasTaken, IsReady}
use Rattle.dv_share.proofs.Ports.{ArePartedAt, carried_below, next_port}
use Rattle.dv_share.proofs.received.Received.deliver_row.Given as goal

-- what the links carry that lead from a port before the next one is put in
abbrev pub invariant-loop-start : goal.invariant-loop-start
invariant-loop-start l = record {
  within : l.start ≤ length l.sendings;
  parted : ArePartedAt (λ s. s.port) l.sendings l.start;
  ready : IsReady l.members l.self;
  taken : HasTaken l.members (carried_below l.sent (next_port (λ s. s.port) l.sendings l.start) (links_of l.links)) l.fn.self l.self;
}

abbrev pub decreases-loop-start : goal.decreases-loop-start
decreases-loop-start l = length l.sendings - l.start
