use Rattle.std.proofs.Common.{◌≡◌, ℕ, ◌-◌, ◌≤◌, Some, None, get_or}
use Rattle.dv_time.specs.declared.time.Time.{Time}
use Rattle.dv_agenda.specs.Wheel.{slot}
use Rattle.dv_agenda.proofs.wheel.Wheel.first.Given as goal

abbrev pub invariant-loop-slot : goal.invariant-loop-slot
invariant-loop-slot l = record {
  high : l.slot ≤ 641;
  none : (p : ℕ) (t : Time) → get_or l.waits p None ≡ Some t → l.slot ≤ slot t.tick l.self.present;
}

abbrev pub decreases-loop-slot : goal.decreases-loop-slot
decreases-loop-slot l = 641 - l.slot
