use Rattle.std.proofs.Common.{◌≡◌, drop}
use Rattle.dv_bag.specs.Sent.{sent_at, sent_into}
use Rattle.dv_bag.proofs.sent.Sent.bag.Given as goal

abbrev pub invariant-loop-sending : goal.invariant-loop-sending
invariant-loop-sending l = sent_into l.port (drop l.sending-index l.sending-items) l.bag ≡ sent_at l.port l.sending-items
