use Rattle.std.proofs.Common.{◌<◌, ◌≤◌, length, refl, sym, arith, ◌∙◌}
use Rattle.dv_agenda.proofs.Leasts.{held_written, low_written}
use Rattle.dv_agenda.proofs.Sets.{kept_by}
use Rattle.dv_agenda.proofs.wheel.Wheel.put.Goals as goal

pub returns-in-Some-clause-more : goal.returns-in-Some-clause-more
returns-in-Some-clause-more c =
    let high : c.slot_of-slot.result < 641 = c.slot_of-slot.ensures.high in
    let room : 641 ≤ length c.args.self.now.leasts.items = c.requires.room.known in
    record {
      present = refl;
      span = refl;
      used = λ q one. kept_by c.args.self.now.used c.insert.new.words c.slot_of-slot.result q c.insert.ensures.there c.insert.ensures.others one;
      members = c.insert-in-Some.ensures.others;
      low = low_written c.args.self.now.leasts.items c.slot_of-slot.result c.index_mut.result.now c.enter.new.self (omega arith)
          c.index_mut.ensures.value c.enter.ensures.low;
    }

pub returns-in-Some-clause-held : goal.returns-in-Some-clause-held
returns-in-Some-clause-held c = λ ws e h.
    let high : c.slot_of-slot.result < 641 = c.slot_of-slot.ensures.high in
    let room : 641 ≤ length c.args.self.now.leasts.items = c.requires.room.known in
    held_written c.args.self.now.leasts.items ws c.args.self.now.present c.slot_of-slot.result c.index_mut.result.now c.enter.new.self
    (omega arith) c.index_mut.ensures.value
    (c.enter.ensures.held ws c.args.self.now.present c.slot_of-slot.result c.args.index (e ∙ c.in-Some.is)
    (sym c.slot_of-slot.ensures.slot)) h
