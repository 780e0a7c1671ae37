use Rattle.std.proofs.Common.{◌≡◌, None, map, replicate}
use Rattle.dv_bag.specs.Responses.{ticks_of}
use Rattle.dv_plan.proofs.responses.no_responses.Given as goal

abbrev pub invariant-loop : goal.invariant-loop
invariant-loop l = map ticks_of l.found.items ≡ replicate l.counter None
