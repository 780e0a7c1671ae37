use Rattle.std.proofs.Common.{inl, inr, ℕ, ◌/◌, ◌%◌, ◌^◌, ◌<◌, ◌≤◌, get_or, refl, arith}
use Rattle.std.proofs.Math.Facts.{Fits-lt-pow}
use Rattle.std.proofs.Math.Nat.{div-le_self}
use Rattle.std.proofs.lemmas.Bool.{cases_lt}
use Rattle.dv_agenda.proofs.Sets.{none_before, none_left}
use Rattle.dv_agenda.proofs.bits.next.Goals as goal

pub returns-then-found-end-clause-none : goal.returns-then-found-end-clause-none
returns-then-found-end-clause-none c = λ p le lt. elim (cases_lt p c.loop-at.at) [
  | inl l ↦ c.loop-at.invariant.none p le l
  | inr ge ↦
      let w : ℕ = get_or c.args.words.now (c.loop-at.at / 64) 0 in
      let below : get_or c.args.words.now (c.loop-at.at / 64) 0 < 2 ^ 64 = Fits-lt-pow (c.type_inv.words (c.loop-at.at / 64)) in
      let less : get_or c.args.words.now (c.loop-at.at / 64) 0 / 2 ^ (c.loop-at.at % 64) ≤ get_or c.args.words.now (c.loop-at.at / 64) 0 =
      div-le_self _ _ in
      none_before c.args.words.now c.loop-at.at p _ refl below c.if-rest-ne0.true (omega arith) ge lt
]

pub returns-else-found-end-clause-none : goal.returns-else-found-end-clause-none
returns-else-found-end-clause-none c = λ p le lt. elim (cases_lt p c.loop-at.at) [
  | inl l ↦ c.loop-at.invariant.none p le l
  | inr ge ↦
      let below : get_or c.args.words.now (c.loop-at.at / 64) 0 < 2 ^ 64 = Fits-lt-pow (c.type_inv.words (c.loop-at.at / 64)) in
      let less : get_or c.args.words.now (c.loop-at.at / 64) 0 / 2 ^ (c.loop-at.at % 64) ≤ get_or c.args.words.now (c.loop-at.at / 64) 0 =
      div-le_self _ _ in
      none_before c.args.words.now c.loop-at.at p _ refl below c.if-rest-ne0.true (omega arith) ge (omega (arith, c.if-found-end.false))
]

pub loop-at-preserved : goal.loop-at-preserved
loop-at-preserved c = record {
  low = (let l : c.args.from ≤ c.loop-at.at = c.loop-at.invariant.low in omega arith);
  none = λ p le lt. elim (cases_lt p c.loop-at.at) [
    | inl l ↦ c.loop-at.invariant.none p le l
    | inr ge ↦ none_left c.args.words.now c.loop-at.at p c.if-rest-ne0.false ge lt
  ];
}
