use Rattle.std.proofs.Common.{inl, inr, ◌<◌, ◌≤◌, length, refl, set, subst, sym, arith, ◌∙◌}
use Rattle.std.proofs.lemmas.Bool.{cases_eq}
use Rattle.std.specs.Vec.{with_item}
use Rattle.dv_agenda.specs.Wheel.{IsLow, least_at, nothing}
use Rattle.dv_agenda.specs.declared.least.Least.{Least}
use Rattle.dv_agenda.proofs.Leasts.{elsewhere, held_after, held_left, held_none, low_written, nothing_held}
use Rattle.dv_agenda.proofs.Wheels.{left_by}
use Rattle.dv_agenda.proofs.wheel.Wheel.leave.Goals as goal

pub returns-then-is_empty-clause-others : goal.returns-then-is_empty-clause-others
returns-then-is_empty-clause-others c =
    left_by c.args.self.now
    (record c.args.self.now {
      used = c.remove-then-is_empty.new.words;
      members = c.remove.new.self;
      leasts = with_item c.args.self.now.leasts c.slot_of-slot.result nothing;
    })
    c.slot_of-slot.result c.args.index refl refl c.requires.index c.remove.ensures.others
    (λ q one. elim (cases_eq q c.slot_of-slot.result) [
      | inl e ↦ inr (e, c.is_empty.ensures c.if-is_empty.true)
      | inr d ↦ inl (
        c.remove-then-is_empty.ensures.others q d ∙ one,
        λ v low. subst (λ (k : Least). IsLow k v)
            (sym (elsewhere c.args.self.now.leasts.items c.slot_of-slot.result q nothing d)) low,
      )
    ])

pub returns-then-is_empty-clause-held : goal.returns-then-is_empty-clause-held
returns-then-is_empty-clause-held c = λ ws w lt at h s.
    let high : c.slot_of-slot.result < 641 = c.slot_of-slot.ensures.high in
    let room : 641 ≤ length c.args.self.now.leasts.items = c.requires.room.known in
    held_after ws c.args.self.now.present c.slot_of-slot.result c.args.index s w c.in-Some.time nothing c.args.self.now.leasts.items
    (omega arith) lt (at ∙ c.in-Some.is) (sym c.slot_of-slot.ensures.slot)
    (nothing_held (set ws c.args.index w) c.args.self.now.present c.slot_of-slot.result) h

pub returns-else-is_empty-clause-others : goal.returns-else-is_empty-clause-others
returns-else-is_empty-clause-others c =
    let high : c.slot_of-slot.result < 641 = c.slot_of-slot.ensures.high in
    let room : 641 ≤ length c.args.self.now.leasts.items = c.requires.room.known in
    let lt : c.slot_of-slot.result < length c.args.self.now.leasts.items = omega arith in
    left_by c.args.self.now
    (record c.args.self.now {
      members = c.remove.new.self;
      leasts = with_item c.args.self.now.leasts c.slot_of-slot.result c.leave.new.self;
    })
    c.slot_of-slot.result c.args.index refl refl c.requires.index c.remove.ensures.others
    (λ q one. inl (
      one,
      low_written c.args.self.now.leasts.items c.slot_of-slot.result c.index_mut-else-is_empty.result.now c.leave.new.self lt
          c.index_mut-else-is_empty.ensures.value c.leave.ensures.low q,
    ))

pub returns-else-is_empty-clause-held : goal.returns-else-is_empty-clause-held
returns-else-is_empty-clause-held c = λ ws w lt at h.
    let high : c.slot_of-slot.result < 641 = c.slot_of-slot.ensures.high in
    let room : 641 ≤ length c.args.self.now.leasts.items = c.requires.room.known in
    held_left ws c.args.self.now.present c.slot_of-slot.result c.args.index w c.in-Some.time c.args.self.now.leasts.items
    c.index_mut-else-is_empty.result.now c.leave.new.self (omega arith) lt (at ∙ c.in-Some.is) (sym c.slot_of-slot.ensures.slot)
    c.index_mut-else-is_empty.ensures.value
    (c.leave.ensures.held ws c.args.self.now.present c.slot_of-slot.result c.args.index w lt (at ∙ c.in-Some.is)
    (sym c.slot_of-slot.ensures.slot)) h

pub returns-in_default-clause-held : goal.returns-in_default-clause-held
returns-in_default-clause-held c = λ ws w lt e h s.
    held_none ws c.args.self.now.present s c.args.index w (least_at c.args.self.now.leasts.items s) lt (e ∙ c.in_default.is) (h s)
