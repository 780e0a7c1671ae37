use Rattle.std.proofs.Common.{◌≡◌, ℕ, ◌+◌, ◌-◌, ◌*◌, ◌<◌, ◌≤◌, None, get_or}
use Rattle.dv_time.specs.Time.{earliest}
use Rattle.dv_agenda.specs.Sets.{has}
use Rattle.dv_agenda.specs.Waits.{first_of}
use Rattle.dv_agenda.proofs.wheel.Wheel.least_in.Given as goal

abbrev pub invariant-loop-at : goal.invariant-loop-at
invariant-loop-at l = record {
  low : l.base ≤ l.at;
  high : l.at ≤ l.end;
  above : earliest (first_of l.waits) l.least ≡ first_of l.waits;
  below : (p : ℕ) → p < 64 * (l.at - l.base) → has l.self.members (l.slot * l.self.span + p) ≡ 1
      → earliest l.least (get_or l.waits p None) ≡ l.least;
}

abbrev pub decreases-loop-at : goal.decreases-loop-at
decreases-loop-at l = l.end - l.at
