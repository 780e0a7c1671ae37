use Rattle.std.proofs.Common.{arith}
use Rattle.std.proofs.lemmas.List.Sorted.{IsNonDecreasingBy-from_all_adjacent}
use Rattle.dv_share.proofs.received.are_in_order.Goals as goal

pub returns : goal.returns
returns c is = IsNonDecreasingBy-from_all_adjacent (λ x. x) c.args.indices.now (λ k d lt. c.loop-index.invariant.adjacent k d (omega arith))
