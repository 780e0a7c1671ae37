use Rattle.std.proofs.Common.{◌≡◌, ◌-◌, ◌*◌, ◌≤◌, ◌++◌, take}
use Rattle.std.specs.Vec.{vec_capacity}
use Rattle.dv_agenda.specs.Waits.{due_at}
use Rattle.dv_agenda.proofs.wheel.Wheel.gather.Given as goal

abbrev pub invariant-loop-at : goal.invariant-loop-at
invariant-loop-at l = record {
  low : l.base ≤ l.at;
  high : l.at ≤ l.end;
  capacity : vec_capacity l.fn.into ≤ vec_capacity l.into;
  due : l.into.items ≡ l.fn.into.items ++ due_at l.time (take (64 * (l.at - l.base)) l.waits);
}

abbrev pub decreases-loop-at : goal.decreases-loop-at
decreases-loop-at l = l.end - l.at
