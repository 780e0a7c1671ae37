use Rattle.std.proofs.Common.{◌≡◌, ℕ, ◌<◌, None, get_or}
use Rattle.dv_agenda.specs.Agendas.{AreHeld, HasRoom, IsIn}
use Rattle.dv_agenda.proofs.wheel.Wheel.put_all.Given as goal

abbrev pub invariant-loop-index : goal.invariant-loop-index
invariant-loop-index l = record {
  room : HasRoom l.self;
  present : l.self.present ≡ l.fn.self.present;
  span : l.self.span ≡ l.fn.self.span;
  there : (p : ℕ) → p < l.index → IsIn l.self p (get_or l.waits p None);
  held : AreHeld l.waits l.self;
}
