use Rattle.std.proofs.Common.{◌≡◌, ◌++◌, drop}
use Rattle.dv_share.specs.Received.{met_of}
use Rattle.dv_share.proofs.received.put_met.Given as goal

-- what was put, with what is left to put
abbrev pub invariant-loop-receipt : goal.invariant-loop-receipt
invariant-loop-receipt l = l.indices.items ++ met_of (drop l.receipt-index l.receipts) ≡ met_of l.receipts
