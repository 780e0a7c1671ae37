use Rattle.std.proofs.Common.{◌≡◌, inl, inr, ℕ, None, Some, Option, ◌<◌, ◌≤◌, List, get_or, sym, arith, ◌∙◌}
use Rattle.std.proofs.lemmas.Bool.{cases_eq, cases_lt}
use Rattle.dv_time.specs.declared.time.Time.{Time}
use Rattle.dv_agenda.specs.Agendas.{IsKept}
use Rattle.dv_agenda.specs.Sets.{has}
use Rattle.dv_agenda.specs.Wheel.{slot}
use Rattle.dv_agenda.specs.declared.wheel.Wheel.{Wheel}
use Rattle.dv_agenda.proofs.FirstWaits.{nothing_first}
use Rattle.dv_agenda.proofs.Slots.{slot_below}
use Rattle.dv_agenda.proofs.Wheels.{in_at, lowest_empty, lowest_first, nothing_by}
use Rattle.dv_agenda.proofs.wheel.Wheel.first.Goals as goal

-- a slot of a wait is in use
used_slot : (ws : List (Option Time)) (wheel : Wheel) (p : ℕ) (t : Time) → IsKept ws wheel → get_or ws p None ≡ Some t
    → has wheel.used (slot t.tick wheel.present) ≡ 1
used_slot ws wheel p t h e = (in_at ws wheel p t h e).0

pub loop-slot-init : goal.loop-slot-init
loop-slot-init c = record {
  high = c.next-slot.ensures.high;
  none = λ p t e. elim (cases_lt (slot t.tick c.args.self.now.present) c.next-slot.result) [
    | inl lt ↦
        let one : has c.args.self.now.used (slot t.tick c.args.self.now.present) ≡ 1 =
        used_slot c.args.waits.now c.args.self.now p t c.requires e in
        let zero : has c.args.self.now.used (slot t.tick c.args.self.now.present) ≡ 0 =
        c.next-slot.ensures.none (slot t.tick c.args.self.now.present) (omega arith) lt in
        absurd (omega arith)
    | inr le ↦ le
  ];
}

pub loop-slot-preserved : goal.loop-slot-preserved
loop-slot-preserved c = record {
  high = c.next-slot-in-loop-slot.ensures.high;
  none = λ p t e. elim (cases_lt (slot t.tick c.args.self.now.present) c.next-slot-in-loop-slot.result) [
    | inl lt ↦
        let low : c.loop-slot.slot ≤ slot t.tick c.args.self.now.present = c.loop-slot.invariant.none p t e in
        let one : has c.args.self.now.used (slot t.tick c.args.self.now.present) ≡ 1 =
        used_slot c.args.waits.now c.args.self.now p t c.requires e in
        elim (cases_eq (slot t.tick c.args.self.now.present) c.loop-slot.slot) [
          | inl d ↦
              absurd (lowest_empty c.args.waits.now c.args.self.now c.loop-slot.slot c.least_of-least.result c.requires
              c.loop-slot.invariant.none c.least_of-least.ensures.above c.least_of-least.ensures.below
              (sym c.in_slot.ensures ∙ c.if-in_slot.false) p t e d)
          | inr ne ↦
              let zero : has c.args.self.now.used (slot t.tick c.args.self.now.present) ≡ 0 =
              c.next-slot-in-loop-slot.ensures.none (slot t.tick c.args.self.now.present) (omega arith) lt in
              absurd (omega arith)
        ]
    | inr le ↦ le
  ];
}

pub returns-then-in_slot : goal.returns-then-in_slot
returns-then-in_slot c =
    lowest_first c.args.waits.now c.args.self.now c.loop-slot.slot c.least_of-least.result c.requires c.loop-slot.invariant.none
    c.least_of-least.ensures.above c.least_of-least.ensures.below (sym c.in_slot.ensures ∙ c.if-in_slot.true)

pub returns : goal.returns
returns c =
    nothing_first c.args.waits.now (λ q. nothing_by (get_or c.args.waits.now q None)
    (λ t e. let low : c.loop-slot.slot ≤ slot t.tick c.args.self.now.present = c.loop-slot.invariant.none q t e in
    let below : slot t.tick c.args.self.now.present < 641 = slot_below t.tick c.args.self.now.present in
    absurd (omega arith)))
