use Rattle.std.proofs.Common.{◌≡◌, ◌++◌, ◌-◌, ◌≤◌, length, take}
use Rattle.dv_time.specs.declared.time.Time.{Time}
use Rattle.dv_local.specs.Arrivals.{AllFilled, coming_at, items_at}
use Rattle.dv_local.proofs.inbox.Inbox.add_all.Given as goal

abbrev pub invariant-loop-done : goal.invariant-loop-done
invariant-loop-done l = record {
  done : l.done ≤ length l.events;
  filled : AllFilled l.self-inside.by_time;
  added : (t : Time) → items_at t l.self-inside.by_time ≡ items_at t l.initial.self-inside.by_time ++ coming_at t (take l.done l.events);
}

abbrev pub decreases-loop-done : goal.decreases-loop-done
decreases-loop-done l = length l.events - l.done
