use Rattle.std.proofs.Common.{◌≡◌, ◌-◌, length}
use Rattle.dv_share.specs.Received.{AreMet, indexed_at}
use Rattle.dv_share.proofs.received.Received.make_room.Given as goal

abbrev pub invariant-loop-self : goal.invariant-loop-self
invariant-loop-self l = record {
  met : AreMet l.self-inside.receipts.items l.self-inside.indices.items;
  items : indexed_at l.self-inside.receipts.items l.self-inside.indices.items ≡ l.fn.self.items;
}

abbrev pub decreases-loop-self : goal.decreases-loop-self
decreases-loop-self l = length l.members - length l.self-inside.receipts.items
