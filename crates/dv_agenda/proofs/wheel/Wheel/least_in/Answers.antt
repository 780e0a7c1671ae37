use Rattle.std.proofs.Common.{◌≡◌, inl, inr, ℕ, ◌+◌, ◌-◌, ◌*◌, ◌/◌, ◌≤◌, None, get_or, sym, ap, subst, arith, ◌∙◌}
use Rattle.std.proofs.lemmas.Bool.{cases_lt}
use Rattle.std.specs.Int.{bit_at}
use Rattle.dv_time.specs.Time.{earliest}
use Rattle.dv_agenda.specs.Waits.{first_of}
use Rattle.dv_agenda.specs.Sets.{has}
use Rattle.dv_agenda.proofs.OrderOfWaits.{earliest-none}
use Rattle.dv_agenda.proofs.Sets.{has_word}
use Rattle.dv_agenda.proofs.Wheels.{aligned}
use Rattle.dv_agenda.proofs.wheel.Wheel.least_in.Goals as goal

pub loop-at-init : goal.loop-at-init
loop-at-init c =
    let row : c.args.slot * c.args.self.now.span ≡ 64 * (c.args.slot * (c.args.self.now.span / 64)) =
    aligned c.args.slot c.args.self.now.span c.requires.room.whole in
    let low : c.args.slot * (c.args.self.now.span / 64) ≤ c.next_word-at.result = c.next_word-at.ensures.low in
    record {
      low = low;
      high = c.next_word-at.ensures.high;
      above = earliest-none (first_of c.args.waits.now);
      below = λ p lt one.
          let nil : has c.args.self.now.members (c.args.slot * c.args.self.now.span + p) ≡ 0 =
          c.next_word-at.ensures.none (c.args.slot * c.args.self.now.span + p) (omega arith) (omega arith) in
          absurd (omega arith);
    }

pub loop-at-preserved : goal.loop-at-preserved
loop-at-preserved c =
    let row : c.args.slot * c.args.self.now.span ≡ 64 * (c.args.slot * (c.args.self.now.span / 64)) =
    aligned c.args.slot c.args.self.now.span c.requires.room.whole in
    let base : ℕ = c.args.slot * (c.args.self.now.span / 64) in
    let at : ℕ = c.loop-at.at in
    let from : c.args.slot * (c.args.self.now.span / 64) ≤ c.loop-at.at = c.loop-at.invariant.low in
    let low : c.loop-at.at + 1 ≤ c.next_word-at-in-loop-at.result = c.next_word-at-in-loop-at.ensures.low in
    record {
      low = omega arith;
      high = c.next_word-at-in-loop-at.ensures.high;
      above = c.least_of_word-least.ensures.above;
      below = λ p lt one. elim (cases_lt p (64 * (c.loop-at.at - c.args.slot * (c.args.self.now.span / 64)))) [
        | inl l ↦ c.least_of_word-least.ensures.before (get_or c.args.waits.now p None) (c.loop-at.invariant.below p l one)
        | inr ge ↦ elim (cases_lt p (64 * (c.loop-at.at - c.args.slot * (c.args.self.now.span / 64)) + 64)) [
          | inl l ↦
              let j : ℕ = p - 64 * (at - base) in
              let e : 64 * (c.loop-at.at - c.args.slot * (c.args.self.now.span / 64))
              + (p - 64 * (c.loop-at.at - c.args.slot * (c.args.self.now.span / 64))) ≡ p = omega arith in
              let n : c.args.slot * c.args.self.now.span + p
              ≡ 64 * c.loop-at.at + (p - 64 * (c.loop-at.at - c.args.slot * (c.args.self.now.span / 64))) = omega arith in
              subst (λ (i : ℕ). earliest c.least_of_word-least.result (get_or c.args.waits.now i None) ≡ c.least_of_word-least.result) e
              (c.least_of_word-least.ensures.below j (omega arith)
              (ap (λ (x : ℕ). bit_at x j) c.word.ensures ∙ sym (has_word c.args.self.now.members at j (omega arith))
              ∙ ap (has c.args.self.now.members) (sym n) ∙ one))
          | inr past ↦
              let nil : has c.args.self.now.members (c.args.slot * c.args.self.now.span + p) ≡ 0 =
              c.next_word-at-in-loop-at.ensures.none (c.args.slot * c.args.self.now.span + p) (omega arith) (omega arith) in
              absurd (omega arith)
        ]
      ];
    }

pub returns-clause-below : goal.returns-clause-below
returns-clause-below c = λ p lt one.
    let whole : c.args.self.now.span ≡ 64 * (c.args.self.now.span / 64) = c.requires.room.whole in
    let from : c.args.slot * (c.args.self.now.span / 64) ≤ c.loop-at.at = c.loop-at.invariant.low in
    c.loop-at.invariant.below p (omega arith) one
