use Rattle.std.proofs.Common.{inl, inr, ℕ, ◌+◌, ◌*◌, ◌/◌, ◌%◌, ◌^◌, ◌<◌, ◌≤◌, get_or, refl, arith, w64}
use Rattle.std.proofs.Math.Facts.{Fits-lt-pow}
use Rattle.std.proofs.Math.Nat.{div-le_self}
use Rattle.std.proofs.lemmas.Bool.{cases_lt}
use Rattle.std.specs.Int.{trailing_zeros}
use Rattle.dv_agenda.proofs.Sets.{none_at, none_before, none_left}
use Rattle.dv_agenda.proofs.bits.pass.Goals as goal

further : (n k : ℕ) → 0 < k → n < n + k
further n k lt = omega arith

pub returns-then-found-end-clause-low : goal.returns-then-found-end-clause-low
returns-then-found-end-clause-low c =
    let w : ℕ = get_or c.remove.new.words (c.args.number / 64) 0 in
    let below : get_or c.remove.new.words (c.args.number / 64) 0 < 2 ^ 64 = Fits-lt-pow (c.type_inv.words (c.args.number / 64)) in
    let less : get_or c.remove.new.words (c.args.number / 64) 0 / 2 ^ (c.args.number % 64)
    ≤ get_or c.remove.new.words (c.args.number / 64) 0 = div-le_self _ _ in
    further c.args.number (trailing_zeros w64 (w / 2 ^ (c.args.number % 64)))
    (none_at c.remove.new.words c.args.number (w / 2 ^ (c.args.number % 64)) refl c.if-rest-ne0.true (omega arith) c.remove.ensures.gone)

pub returns-then-found-end-clause-none : goal.returns-then-found-end-clause-none
returns-then-found-end-clause-none c = λ p gt lt.
    let below : get_or c.remove.new.words (c.args.number / 64) 0 < 2 ^ 64 = Fits-lt-pow (c.type_inv.words (c.args.number / 64)) in
    let less : get_or c.remove.new.words (c.args.number / 64) 0 / 2 ^ (c.args.number % 64)
    ≤ get_or c.remove.new.words (c.args.number / 64) 0 = div-le_self _ _ in
    none_before c.remove.new.words c.args.number p _ refl below c.if-rest-ne0.true (omega arith) (omega arith) lt

pub returns-else-found-end-clause-none : goal.returns-else-found-end-clause-none
returns-else-found-end-clause-none c = λ p gt lt.
    let below : get_or c.remove.new.words (c.args.number / 64) 0 < 2 ^ 64 = Fits-lt-pow (c.type_inv.words (c.args.number / 64)) in
    let less : get_or c.remove.new.words (c.args.number / 64) 0 / 2 ^ (c.args.number % 64)
    ≤ get_or c.remove.new.words (c.args.number / 64) 0 = div-le_self _ _ in
    none_before c.remove.new.words c.args.number p _ refl below c.if-rest-ne0.true (omega arith) (omega arith)
    (omega (arith, c.if-found-end.false))

pub returns-then-after-end-clause-none : goal.returns-then-after-end-clause-none
returns-then-after-end-clause-none c = λ p gt lt. elim (cases_lt p (64 * (c.args.number / 64 + 1))) [
  | inl near ↦ none_left c.remove.new.words c.args.number p c.if-rest-ne0.false (omega arith) near
  | inr far ↦ c.next.ensures.none p far lt
]

pub returns-else-after-end-clause-none : goal.returns-else-after-end-clause-none
returns-else-after-end-clause-none c = λ p gt lt.
    none_left c.remove.new.words c.args.number p c.if-rest-ne0.false (omega arith) (omega (arith, c.if-after-end.false))
