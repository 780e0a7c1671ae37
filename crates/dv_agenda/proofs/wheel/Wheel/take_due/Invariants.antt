use Rattle.std.proofs.Common.{◌≡◌, ◌⊎◌, ℕ, ◌+◌, ◌-◌, ◌*◌, ◌≤◌, ◌++◌, Some, None, true, get_or, take}
use Rattle.std.specs.Vec.{vec_capacity}
use Rattle.dv_time.specs.declared.time.Time.{Time}
use Rattle.dv_agenda.specs.Agendas.{AreHeld, HasRoom, IsIn}
use Rattle.dv_agenda.specs.Sets.{has}
use Rattle.dv_agenda.specs.Waits.{due_at, ends_at, without}
use Rattle.dv_agenda.proofs.wheel.Wheel.take_due.Given as goal

abbrev pub invariant-loop-at : goal.invariant-loop-at
invariant-loop-at l = record {
  low : l.base ≤ l.at;
  high : l.at ≤ l.end;
  room : HasRoom l.self;
  present : l.self.present ≡ l.time.tick;
  span : l.self.span ≡ l.fn.self.span;
  held : AreHeld (without l.time l.waits) l.self;
  moved : (p : ℕ) (t : Time) → get_or (without l.time l.waits) p None ≡ Some t
      → (IsIn l.self p (Some t))
      ⊎ ((64 * l.at ≤ l.slot * l.fn.self.span + p) × (has l.self.members (l.slot * l.fn.self.span + p) ≡ 1));
  still : (p : ℕ) → ends_at l.time (get_or l.waits p None) ≡ true → 64 * l.at ≤ l.slot * l.fn.self.span + p
      → has l.self.members (l.slot * l.fn.self.span + p) ≡ 1;
  capacity : vec_capacity l.fn.into ≤ vec_capacity l.into;
  due : l.into.items ≡ l.fn.into.items ++ due_at l.time (take (64 * (l.at - l.base)) l.waits);
}

abbrev pub decreases-loop-at : goal.decreases-loop-at
decreases-loop-at l = l.end - l.at
