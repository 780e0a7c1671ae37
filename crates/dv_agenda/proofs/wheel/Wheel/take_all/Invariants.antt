use Rattle.std.proofs.Common.{◌≡◌, ℕ, ◌+◌, ◌*◌, ◌<◌, None, Some, get_or}
use Rattle.dv_time.specs.declared.time.Time.{Time}
use Rattle.dv_agenda.specs.Agendas.{HasRoom}
use Rattle.dv_agenda.specs.Sets.{has}
use Rattle.dv_agenda.specs.Wheel.{slot}
use Rattle.dv_agenda.proofs.wheel.Wheel.take_all.Given as goal

abbrev pub invariant-loop-index : goal.invariant-loop-index
invariant-loop-index l = record {
  room : HasRoom l.self;
  present : l.self.present ≡ l.fn.self.present;
  span : l.self.span ≡ l.fn.self.span;
  gone : (p : ℕ) (t : Time) → p < l.index → get_or l.waits p None ≡ Some t
      → has l.self.members (slot t.tick l.fn.self.present * l.fn.self.span + p) ≡ 0;
  unused : (p : ℕ) (t : Time) → p < l.index → get_or l.waits p None ≡ Some t → has l.self.used (slot t.tick l.fn.self.present) ≡ 0;
}
