use Rattle.std.proofs.Common.{length}
use Rattle.dv_share.specs.Received.{AreMet}
use Rattle.dv_share.proofs.received.Received.clear.Given as goal

-- the indices that are left are those of the receipts that are met
abbrev pub invariant-loop-index : goal.invariant-loop-index
invariant-loop-index l = AreMet l.self-inside.receipts.items l.self-inside.indices.items

abbrev pub decreases-loop-index : goal.decreases-loop-index
decreases-loop-index l = length l.self-inside.indices.items
