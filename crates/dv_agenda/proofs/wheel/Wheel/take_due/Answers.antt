use Rattle.std.proofs.Common.{◌≡◌, ℕ, None, List, Option, OnErr, Result, Ok, Err, ◌+◌, ◌-◌, ◌*◌, ◌/◌, ◌<◌, ◌≤◌, ◌++◌, true, get_or}
use Rattle.std.proofs.Common.{length, length-set, refl, sym, ap, subst, arith, ◌∙◌}
use Rattle.std.proofs.lemmas.List.{append-nil}
use Rattle.std.specs.Int.{bit_at}
use Rattle.std.specs.Vec.{vec_capacity, vec_len, with_item}
use Rattle.dv_time.specs.declared.time.Time.{Time}
use Rattle.dv_agenda.specs.Sets.{has}
use Rattle.dv_agenda.specs.Waits.{due_at, ends_at, without}
use Rattle.dv_agenda.specs.Wheel.{AreFrom, nothing}
use Rattle.dv_agenda.specs.declared.wheel.Wheel.{Wheel}
use Rattle.dv_agenda.proofs.FirstWaits.{due_none, due_skip, take_whole}
use Rattle.dv_agenda.proofs.Hands.{due_there, from_without, held_due, length-without, without_some}
use Rattle.dv_agenda.proofs.Sets.{has_word}
use Rattle.dv_agenda.proofs.Wheels.{aligned, all_moved, in_at, moved_on, not_due_there, room_after, started, within}
use Rattle.dv_agenda.proofs.wheel.Wheel.take_due.Goals as goal

pub loop-at-init : goal.loop-at-init
loop-at-init c =
    let ws : List (Option Time) = c.args.waits.now in
    let t : Time = c.args.time in
    let s : ℕ = c.slot_of-slot.result in
    let row : c.slot_of-slot.result * c.args.self.now.span ≡ 64 * (c.slot_of-slot.result * (c.args.self.now.span / 64)) =
    aligned c.slot_of-slot.result c.args.self.now.span c.requires.kept.room.whole in
    let low : c.slot_of-slot.result * (c.args.self.now.span / 64) ≤ c.next_word-at.result = c.next_word-at.ensures.low in
    let after : Wheel = record c.args.self.now {
      present = c.args.time.tick;
      used = c.remove.new.words;
      leasts = with_item c.args.self.now.leasts c.slot_of-slot.result nothing;
    } in
    let still : (p : ℕ) → ends_at t (get_or ws p None) ≡ true → has c.args.self.now.members (s * c.args.self.now.span + p) ≡ 1 =
    λ p e. due_there ws c.args.self.now s p t c.slot_of-slot.ensures.slot c.requires.kept e in
    record {
      low = c.next_word-at.ensures.low;
      high = c.next_word-at.ensures.high;
      room = room_after c.args.self.now after c.requires.kept.room refl c.remove.ensures.size refl
          (length-set c.args.self.now.leasts.items c.slot_of-slot.result nothing);
      present = refl;
      span = refl;
      held = held_due t ws c.args.self.now.present s c.args.self.now.leasts.items c.requires.on c.requires.from
          c.slot_of-slot.ensures.slot (omega (arith, c.slot_of-slot.ensures.high, c.requires.kept.room.known)) c.requires.kept.held;
      moved = started (without t ws) c.args.self.now after s (64 * c.next_word-at.result)
          (λ p u e. in_at ws c.args.self.now p u c.requires.kept (without_some t ws p u e).0)
          c.requires.on (from_without t c.args.time.tick ws c.requires.from) c.slot_of-slot.ensures.slot refl
          (λ q ne one. c.remove.ensures.others q ne ∙ one) refl refl (λ q le lt. c.next_word-at.ensures.none q (omega arith) lt);
      still = λ p e le. still p e;
      capacity = omega arith;
      due = sym (ap (λ (ps : List ℕ). c.args.into.now.items ++ ps)
          (due_skip t ws 0 (64 * (c.next_word-at.result - s * (c.args.self.now.span / 64))) (omega arith)
          (λ p le lt. not_due_there ws c.args.self.now.members t (s * c.args.self.now.span) 0 p (λ q e l. still q e) (omega arith)
          (c.next_word-at.ensures.none (c.slot_of-slot.result * c.args.self.now.span + p) (omega arith) (omega arith)))
          ∙ due_none t ws)
          ∙ append-nil c.args.into.now.items);
    }

pub part_word-requires-clause-others : goal.part_word-requires-clause-others
part_word-requires-clause-others c = λ p lt nil.
    let s : ℕ = c.slot_of-slot.result in
    let row : c.slot_of-slot.result * c.args.self.now.span ≡ 64 * (c.slot_of-slot.result * (c.args.self.now.span / 64)) =
    aligned c.slot_of-slot.result c.args.self.now.span c.requires.kept.room.whole in
    let low : c.slot_of-slot.result * (c.args.self.now.span / 64) ≤ c.loop-at.at = c.loop-at.invariant.low in
    let n : c.slot_of-slot.result * c.args.self.now.span
    + (64 * (c.loop-at.at - c.slot_of-slot.result * (c.args.self.now.span / 64)) + p)
    ≡ 64 * c.loop-at.at + p = omega arith in
    not_due_there c.args.waits.now c.loop-at.self.members c.args.time (s * c.args.self.now.span) (64 * c.loop-at.at)
    (64 * (c.loop-at.at - s * (c.args.self.now.span / 64)) + p) c.loop-at.invariant.still (omega arith)
    (ap (has c.loop-at.self.members) n ∙ has_word c.loop-at.self.members c.loop-at.at p lt
    ∙ ap (λ (x : ℕ). bit_at x p) (sym c.take_word-word.ensures.word) ∙ nil)

on_err : {T E P : Type 0} (r : Result T E) → P → OnErr r P
on_err (Ok x) h = tt
on_err (Err e) h = h

pub returns-in_err-part_word-clause-full : goal.returns-in_err-part_word-clause-full
returns-in_err-part_word-clause-full c =
    let then : length c.args.into.now.items ≡ vec_len c.args.into.now = sym c.args.into.now.ok.0 in
    let room : vec_capacity c.args.into.now ≤ vec_capacity c.loop-at.into = c.loop-at.invariant.capacity in
    let full : vec_capacity c.loop-at.into < length c.args.into.now.items + length (due_at c.args.time c.args.waits.now) =
    c.in_err-part_word.ensures.full c.args.into.now.items c.loop-at.invariant.due in
    on_err c.from_residual.result (omega arith)

pub loop-at-preserved : goal.loop-at-preserved
loop-at-preserved c =
    let ws : List (Option Time) = c.args.waits.now in
    let t : Time = c.args.time in
    let s : ℕ = c.slot_of-slot.result in
    let base : ℕ = s * (c.args.self.now.span / 64) in
    let row : c.slot_of-slot.result * c.args.self.now.span ≡ 64 * (c.slot_of-slot.result * (c.args.self.now.span / 64)) =
    aligned c.slot_of-slot.result c.args.self.now.span c.requires.kept.room.whole in
    let from : c.slot_of-slot.result * (c.args.self.now.span / 64) ≤ c.loop-at.at = c.loop-at.invariant.low in
    let low : c.loop-at.at < c.take_word-word.result.1 = c.take_word-word.ensures.low in
    let fits : length c.args.waits.now ≤ c.args.self.now.span = c.requires.kept.fits in
    let size : length (without c.args.time c.args.waits.now) ≡ length c.args.waits.now = length-without c.args.time c.args.waits.now in
    let more = c.part_word.ensures.more in
    let room : vec_capacity c.args.into.now ≤ vec_capacity c.loop-at.into = c.loop-at.invariant.capacity in
    let grown : vec_capacity c.loop-at.into ≤ vec_capacity c.part_word.new.into = c.part_word.ensures.capacity in
    let still : (p : ℕ) → ends_at t (get_or ws p None) ≡ true → 64 * (c.loop-at.at + 1) ≤ s * c.args.self.now.span + p
    → has c.take_word-word.new.self (s * c.args.self.now.span + p) ≡ 1 =
    λ p e le. c.take_word-word.ensures.others (s * c.args.self.now.span + p) (omega arith) (c.loop-at.invariant.still p e (omega arith)) in
    record {
      low = omega arith;
      high = c.take_word-word.ensures.high;
      room = c.part_word.ensures.room;
      present = more.present ∙ c.loop-at.invariant.present;
      span = more.span ∙ c.loop-at.invariant.span;
      held = c.part_word.ensures.held;
      moved = λ p u e.
          let lt : p < length (without c.args.time c.args.waits.now) = within (without c.args.time c.args.waits.now) p u e in
          moved_on (without t ws) c.loop-at.self c.part_word.new.self c.take_word-word.new.self c.args.self.now.span s c.loop-at.at
          c.take_word-word.result.1 p u c.requires.kept.room.whole from (omega arith) e (omega arith) c.loop-at.invariant.span
          more.present more.span
          c.take_word-word.ensures.others more.members
          (λ j small one. c.in_ok-part_word.ensures.there j small (ap (λ (x : ℕ). bit_at x j) c.take_word-word.ensures.word ∙ one))
          more.used more.low (λ n le less. c.take_word-word.ensures.none n le less) (c.loop-at.invariant.moved p u e);
      still = λ p e le. more.members (s * c.args.self.now.span + p) (still p e (omega arith));
      capacity = omega arith;
      due = c.in_ok-part_word.ensures.due c.args.into.now.items c.loop-at.invariant.due
          ∙ ap (λ (ps : List ℕ). c.args.into.now.items ++ ps)
          (sym (due_skip t ws (64 * (c.loop-at.at - base) + 64) (64 * (c.take_word-word.result.1 - base)) (omega arith)
          (λ p le lt. not_due_there ws c.take_word-word.new.self t (s * c.args.self.now.span) (64 * (c.loop-at.at + 1)) p still
          (omega arith)
          (c.take_word-word.ensures.none (c.slot_of-slot.result * c.args.self.now.span + p) (omega arith) (omega arith)))));
    }

pub returns-clause-due : goal.returns-clause-due
returns-clause-due c =
    let ws : List (Option Time) = c.args.waits.now in
    let whole : c.args.self.now.span ≡ 64 * (c.args.self.now.span / 64) = c.requires.kept.room.whole in
    let fits : length c.args.waits.now ≤ c.args.self.now.span = c.requires.kept.fits in
    let high : c.loop-at.at ≤ c.slot_of-slot.result * (c.args.self.now.span / 64) + c.args.self.now.span / 64 = c.loop-at.invariant.high in
    let from : c.slot_of-slot.result * (c.args.self.now.span / 64) ≤ c.loop-at.at = c.loop-at.invariant.low in
    let end : c.slot_of-slot.result * (c.args.self.now.span / 64) + c.args.self.now.span / 64 ≤ c.loop-at.at = omega (arith, c.loop-at-test.false) in
    c.loop-at.invariant.due
    ∙ ap (λ (vs : List (Option Time)). c.args.into.now.items ++ due_at c.args.time vs)
    (take_whole ws (64 * (c.loop-at.at - c.slot_of-slot.result * (c.args.self.now.span / 64))) (omega arith))

pub returns-clause-kept : goal.returns-clause-kept
returns-clause-kept c =
    let ws : List (Option Time) = c.args.waits.now in
    let t : Time = c.args.time in
    let s : ℕ = c.slot_of-slot.result in
    let row : c.slot_of-slot.result * c.args.self.now.span ≡ 64 * (c.slot_of-slot.result * (c.args.self.now.span / 64)) =
    aligned c.slot_of-slot.result c.args.self.now.span c.requires.kept.room.whole in
    let whole : c.args.self.now.span ≡ 64 * (c.args.self.now.span / 64) = c.requires.kept.room.whole in
    let fits : length c.args.waits.now ≤ c.args.self.now.span = c.requires.kept.fits in
    let size : length (without c.args.time c.args.waits.now) ≡ length c.args.waits.now = length-without c.args.time c.args.waits.now in
    let wide : c.loop-at.self.span ≡ c.args.self.now.span = c.loop-at.invariant.span in
    let from : c.slot_of-slot.result * (c.args.self.now.span / 64) ≤ c.loop-at.at = c.loop-at.invariant.low in
    record {
      room = c.loop-at.invariant.room;
      fits = omega arith;
      from = subst (AreFrom (without t ws)) (sym c.loop-at.invariant.present) (from_without t c.args.time.tick ws c.requires.from);
      there = all_moved (without t ws) c.loop-at.self c.args.self.now.span s (64 * c.loop-at.at) (omega arith) c.loop-at.invariant.moved;
      held = c.loop-at.invariant.held;
    }
