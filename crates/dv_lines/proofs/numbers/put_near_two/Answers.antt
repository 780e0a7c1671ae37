use Rattle.std.proofs.Common.{◌≡◌, ◌+◌, ◌++◌, ap, ◌∙◌, sym, subst, arith, length, take, ℕ}
use Rattle.std.proofs.lemmas.Fmt.{decimal_digit}
use Rattle.itoa.proofs.Decimal.{decimal_two}
use Rattle.dv_written.specs.Rooms.{IsPut}
use Rattle.dv_lines.proofs.numbers.put_near_two.Goals as goal

pub returns-then-n-lt10-clause-text : goal.returns-then-n-lt10-clause-text
returns-then-n-lt10-clause-text c =
    let put = c.put_near_byte.ensures.text in
    (put.0, put.1 ∙ ap (λ t. take c.args.at c.args.to.now ++ t) (sym (decimal_digit c.args.n c.if-n-lt10.true)))

pub returns-clause-text : goal.returns-clause-text
returns-clause-text c =
    let digits = c.two_digits.result in
    let new = c.put_near_bytes.new.to in
    let two : length digits ≡ 2 = ap length c.two_digits.ensures in
    let put = subst (λ (n : ℕ). IsPut c.args.to.now c.args.at new (c.args.at + n) digits) two c.put_near_bytes.ensures.text in
    let is = decimal_two c.args.n (omega (arith, c.if-n-lt10.false)) c.requires.few in
    (put.0, put.1 ∙ ap (λ t. take c.args.at c.args.to.now ++ t) (c.two_digits.ensures ∙ sym is))
