use Rattle.std.proofs.Common.{◌≡◌, ◌++◌, map, take}
use Rattle.dv_local.specs.Arrivals.{delivery_in}
use Rattle.dv_local.proofs.by_time.push_all.Given as goal

abbrev pub invariant-loop-event : goal.invariant-loop-event
invariant-loop-event l = l.list.items ≡ l.fn.list.items ++ map delivery_in (take l.event-index l.events)
