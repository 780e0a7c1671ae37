use Rattle.std.proofs.Common.{◌≡◌, ◌≤◌, ◌++◌, List, length, take}
use Rattle.dv_time.specs.declared.time.Time.{Time}
use Rattle.dv_share.specs.declared.link.Delivery.{Delivery}
use Rattle.dv_local.specs.Arrivals.{AllFilled, coming_at, items_at}
use Rattle.dv_local.proofs.by_time.take_all_back.Given as goal

abbrev pub invariant-loop-left : goal.invariant-loop-left
invariant-loop-left l = record {
  left : l.left ≤ length l.events;
  filled : AllFilled l.by_time;
  taken : (before : Time → List Delivery) → ((t : Time) → items_at t l.fn.by_time ≡ before t ++ coming_at t l.events)
      → (t : Time) → items_at t l.by_time ≡ before t ++ coming_at t (take l.left l.events);
}

abbrev pub decreases-loop-left : goal.decreases-loop-left
decreases-loop-left l = l.left
