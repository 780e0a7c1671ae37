use Rattle.std.proofs.Common.{◌≡◌, ◌≢◌, ℕ, Option, ◌+◌, ◌^◌, ◌<◌, ◌≤◌, ◌++◌, List, OnErr, Result, Ok, Err}
use Rattle.std.proofs.Common.{length, take, refl, sym, ap, arith, ◌∙◌, w64}
use Rattle.std.proofs.lemmas.Nat.Bits.{bit_at-zero}
use Rattle.std.specs.Int.{bit_at, trailing_zeros}
use Rattle.std.specs.Vec.{vec_capacity}
use Rattle.dv_time.specs.declared.time.Time.{Time}
use Rattle.dv_agenda.specs.Waits.{due_at}
use Rattle.dv_agenda.proofs.Sets.{below_lowest, lowest_high}
use Rattle.dv_agenda.proofs.WordsDue.{past, so_far, taken}
use Rattle.dv_agenda.proofs.wheel.gather_word.Goals as goal

on_err : {T E P : Type 0} (r : Result T E) → P → OnErr r P
on_err (Ok x) h = tt
on_err (Err e) h = h

pub loop-rest-init : goal.loop-rest-init
loop-rest-init c = record {
  small = omega arith;
  bits = λ p lt le. refl;
  capacity = omega arith;
  due = λ before e.
      let high : trailing_zeros w64 c.args.word ≤ 64 = lowest_high c.args.word in
      let z : c.args.base + 0 ≡ c.args.base = omega arith in
      e ∙ ap (λ (ps : List ℕ). before ++ ps)
      (ap (λ (n : ℕ). due_at c.args.time (take n c.args.waits.now)) (sym z)
      ∙ sym (past c.args.time c.args.waits.now c.args.word c.args.base 0 (trailing_zeros w64 c.args.word) (omega arith) high
      c.requires.others (λ p low lt. below_lowest c.args.word p (omega arith) lt)));
}

pub returns-in_err-push_due-clause-full : goal.returns-in_err-push_due-clause-full
returns-in_err-push_due-clause-full c = λ before e.
    let room : vec_capacity c.args.into.now ≤ vec_capacity c.loop-rest.into = c.loop-rest.invariant.capacity in
    let full : vec_capacity c.loop-rest.into < length before + length (due_at c.args.time c.args.waits.now) =
    c.in_err-push_due.ensures.full before
    (so_far c.args.time c.args.waits.now c.loop-rest.into.items c.args.base c.take_least.result (trailing_zeros w64 c.loop-rest.rest) before
    c.take_least.ensures.least (c.loop-rest.invariant.due before e)) in
    on_err c.from_residual.result (omega arith)

pub loop-rest-preserved : goal.loop-rest-preserved
loop-rest-preserved c =
    let ws : List (Option Time) = c.args.waits.now in
    let k : ℕ = c.take_least.result in
    let rest2 : ℕ = c.take_least.new.word in
    let is : c.take_least.result ≡ trailing_zeros w64 c.loop-rest.rest = c.take_least.ensures.least in
    let high : c.take_least.result < 64 = c.take_least.ensures.high in
    let small : c.loop-rest.rest < 2 ^ 64 = c.loop-rest.invariant.small in
    let less : c.take_least.new.word < c.loop-rest.rest = c.take_least.ensures.less in
    let small2 : c.take_least.new.word < 2 ^ 64 = omega arith in
    let above : c.take_least.result < trailing_zeros w64 c.take_least.new.word =
    taken c.args.word c.loop-rest.rest c.take_least.new.word c.take_least.result small small2 high is
    c.take_least.ensures.gone c.take_least.ensures.others in
    let top : trailing_zeros w64 c.take_least.new.word ≤ 64 = lowest_high c.take_least.new.word in
    let room : vec_capacity c.args.into.now ≤ vec_capacity c.loop-rest.into = c.loop-rest.invariant.capacity in
    let more : vec_capacity c.loop-rest.into ≤ vec_capacity c.push_due.new.into = c.push_due.ensures.capacity in
    let e : c.args.base + c.take_least.result + 1 ≡ c.args.base + (c.take_least.result + 1) = omega arith in
    record {
      small = small2;
      bits = λ p lt le. c.take_least.ensures.others p lt (omega arith) ∙ c.loop-rest.invariant.bits p lt (omega arith);
      capacity = omega arith;
      due = λ before d.
          c.in_ok-push_due.ensures.due before
          (so_far c.args.time ws c.loop-rest.into.items c.args.base k (trailing_zeros w64 c.loop-rest.rest) before is
          (c.loop-rest.invariant.due before d))
          ∙ ap (λ (n : ℕ). before ++ due_at c.args.time (take n ws)) e
          ∙ ap (λ (ps : List ℕ). before ++ ps)
          (sym (past c.args.time ws c.args.word c.args.base (k + 1) (trailing_zeros w64 rest2) (omega arith) top c.requires.others
          (λ p low lt.
          let within : p < 64 = omega arith in
          let not_k : p ≢ k = omega arith in
          sym (c.loop-rest.invariant.bits p within (omega arith)) ∙ sym (c.take_least.ensures.others p within not_k)
          ∙ below_lowest rest2 p small2 lt)));
    }

pub returns-clause-due : goal.returns-clause-due
returns-clause-due c = λ before e.
    let high : trailing_zeros w64 c.loop-rest.rest ≤ 64 = lowest_high c.loop-rest.rest in
    c.loop-rest.invariant.due before e
    ∙ ap (λ (ps : List ℕ). before ++ ps)
    (sym (past c.args.time c.args.waits.now c.args.word c.args.base (trailing_zeros w64 c.loop-rest.rest) 64 high (omega arith)
    c.requires.others (λ p low lt.
    sym (c.loop-rest.invariant.bits p lt low) ∙ ap (λ (n : ℕ). bit_at n p) c.loop-rest-test.false ∙ bit_at-zero p)))
