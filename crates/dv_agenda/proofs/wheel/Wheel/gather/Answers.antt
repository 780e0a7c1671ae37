use Rattle.std.proofs.Common.{◌≡◌, ℕ, Option, ◌+◌, ◌-◌, ◌*◌, ◌/◌, ◌<◌, ◌≤◌, ◌++◌, [], List, OnErr, Result, Ok, Err, length, sym, ap}
use Rattle.std.proofs.Common.{arith, ◌∙◌}
use Rattle.std.proofs.lemmas.List.{append-nil}
use Rattle.std.specs.Int.{bit_at}
use Rattle.std.specs.Vec.{vec_capacity, vec_len}
use Rattle.dv_time.specs.declared.time.Time.{Time}
use Rattle.dv_agenda.specs.Waits.{due_at}
use Rattle.dv_agenda.specs.Sets.{has}
use Rattle.dv_agenda.proofs.FirstWaits.{due_none, due_skip, take_whole}
use Rattle.dv_agenda.proofs.Sets.{has_word}
use Rattle.dv_agenda.proofs.Wheels.{aligned, not_due, past}
use Rattle.dv_agenda.proofs.wheel.Wheel.gather.Goals as goal

pub returns-then-time-self-clause-due : goal.returns-then-time-self-clause-due
returns-then-time-self-clause-due c =
    let ws : List (Option Time) = c.args.waits.now in
    let nothing : due_at c.args.time ws ≡ [] =
    ap (due_at c.args.time) (sym (take_whole ws (length ws) (omega arith)))
    ∙ due_skip c.args.time ws 0 (length ws) (omega arith)
    (λ p le lt. past ws c.args.self.now p c.args.time c.requires.kept
    c.if-time-self.true)
    ∙ due_none c.args.time ws in
    sym (ap (λ (ps : List ℕ). c.args.into.now.items ++ ps) nothing ∙ append-nil c.args.into.now.items)

pub loop-at-init : goal.loop-at-init
loop-at-init c =
    let ws : List (Option Time) = c.args.waits.now in
    let s : ℕ = c.slot_of.result in
    let row : c.slot_of.result * c.args.self.now.span ≡ 64 * (c.slot_of.result * (c.args.self.now.span / 64)) =
    aligned c.slot_of.result c.args.self.now.span c.requires.kept.room.whole in
    let low : c.slot_of.result * (c.args.self.now.span / 64) ≤ c.next_word-at.result = c.next_word-at.ensures.low in
    record {
      low = low;
      high = c.next_word-at.ensures.high;
      capacity = omega arith;
      due = sym (ap (λ (ps : List ℕ). c.args.into.now.items ++ ps)
          (due_skip c.args.time ws 0 (64 * (c.next_word-at.result - s * (c.args.self.now.span / 64))) (omega arith)
          (λ p le lt. not_due ws c.args.self.now p c.args.time c.requires.kept
          (ap (λ (x : ℕ). has c.args.self.now.members (x * c.args.self.now.span + p)) (sym c.slot_of.ensures.slot)
          ∙ c.next_word-at.ensures.none (c.slot_of.result * c.args.self.now.span + p) (omega arith) (omega arith)))
          ∙ due_none c.args.time ws)
          ∙ append-nil c.args.into.now.items);
    }

pub gather_word-requires-clause-others : goal.gather_word-requires-clause-others
gather_word-requires-clause-others c = λ p lt nil.
    let s : ℕ = c.slot_of.result in
    let row : c.slot_of.result * c.args.self.now.span ≡ 64 * (c.slot_of.result * (c.args.self.now.span / 64)) =
    aligned c.slot_of.result c.args.self.now.span c.requires.kept.room.whole in
    let low : c.slot_of.result * (c.args.self.now.span / 64) ≤ c.loop-at.at = c.loop-at.invariant.low in
    let n : c.slot_of.result * c.args.self.now.span + (64 * (c.loop-at.at - c.slot_of.result * (c.args.self.now.span / 64)) + p)
    ≡ 64 * c.loop-at.at + p = omega arith in
    not_due c.args.waits.now c.args.self.now (64 * (c.loop-at.at - s * (c.args.self.now.span / 64)) + p) c.args.time c.requires.kept
    (ap (λ (x : ℕ). has c.args.self.now.members (x * c.args.self.now.span + (64 * (c.loop-at.at - s * (c.args.self.now.span / 64)) + p)))
    (sym c.slot_of.ensures.slot)
    ∙ ap (has c.args.self.now.members) n ∙ has_word c.args.self.now.members c.loop-at.at p lt
    ∙ ap (λ (x : ℕ). bit_at x p) (sym c.word.ensures) ∙ nil)

on_err : {T E P : Type 0} (r : Result T E) → P → OnErr r P
on_err (Ok x) h = tt
on_err (Err e) h = h

pub returns-in_err-gather_word-clause-full : goal.returns-in_err-gather_word-clause-full
returns-in_err-gather_word-clause-full c =
    let then : length c.args.into.now.items ≡ vec_len c.args.into.now = sym c.args.into.now.ok.0 in
    let room : vec_capacity c.args.into.now ≤ vec_capacity c.loop-at.into = c.loop-at.invariant.capacity in
    let full : vec_capacity c.loop-at.into < length c.args.into.now.items + length (due_at c.args.time c.args.waits.now) =
    c.in_err-gather_word.ensures.full c.args.into.now.items c.loop-at.invariant.due in
    on_err c.from_residual.result (omega arith)

pub loop-at-preserved : goal.loop-at-preserved
loop-at-preserved c =
    let ws : List (Option Time) = c.args.waits.now in
    let s : ℕ = c.slot_of.result in
    let base : ℕ = s * (c.args.self.now.span / 64) in
    let row : c.slot_of.result * c.args.self.now.span ≡ 64 * (c.slot_of.result * (c.args.self.now.span / 64)) =
    aligned c.slot_of.result c.args.self.now.span c.requires.kept.room.whole in
    let from : c.slot_of.result * (c.args.self.now.span / 64) ≤ c.loop-at.at = c.loop-at.invariant.low in
    let low : c.loop-at.at + 1 ≤ c.next_word-at-in-loop-at.result = c.next_word-at-in-loop-at.ensures.low in
    let room : vec_capacity c.args.into.now ≤ vec_capacity c.loop-at.into = c.loop-at.invariant.capacity in
    let more : vec_capacity c.loop-at.into ≤ vec_capacity c.gather_word.new.into = c.gather_word.ensures.capacity in
    record {
      low = omega arith;
      high = c.next_word-at-in-loop-at.ensures.high;
      capacity = omega arith;
      due = c.in_ok-gather_word.ensures.due c.args.into.now.items c.loop-at.invariant.due
          ∙ ap (λ (ps : List ℕ). c.args.into.now.items ++ ps)
          (sym (due_skip c.args.time ws (64 * (c.loop-at.at - base) + 64) (64 * (c.next_word-at-in-loop-at.result - base)) (omega arith)
          (λ p le lt. not_due ws c.args.self.now p c.args.time c.requires.kept
          (ap (λ (x : ℕ). has c.args.self.now.members (x * c.args.self.now.span + p)) (sym c.slot_of.ensures.slot)
          ∙ c.next_word-at-in-loop-at.ensures.none (c.slot_of.result * c.args.self.now.span + p) (omega arith) (omega arith)))));
    }

pub returns-clause-due : goal.returns-clause-due
returns-clause-due c =
    let ws : List (Option Time) = c.args.waits.now in
    let whole : c.args.self.now.span ≡ 64 * (c.args.self.now.span / 64) = c.requires.kept.room.whole in
    let fits : length c.args.waits.now ≤ c.args.self.now.span = c.requires.kept.fits in
    let high : c.loop-at.at ≤ c.slot_of.result * (c.args.self.now.span / 64) + c.args.self.now.span / 64 = c.loop-at.invariant.high in
    c.loop-at.invariant.due
    ∙ ap (λ (vs : List (Option Time)). c.args.into.now.items ++ due_at c.args.time vs)
    (take_whole ws (64 * (c.loop-at.at - c.slot_of.result * (c.args.self.now.span / 64))) (omega arith))
