use Rattle.std.proofs.Common.{sym, ◌∙◌}
use Rattle.dv_inputs.proofs.Digits.{numeral_utf8, too_large}
use Rattle.dv_inputs.proofs.numbers.number_below.Goals as goal

pub returns-in_default : goal.returns-in_default
returns-in_default c = absurd (c.in_default.ensures.cases.0
    (numeral_utf8 c.args.bytes.now (sym c.is_numeral.ensures ∙ c.if-not-is_numeral.false)))

pub returns-in_default-parse : goal.returns-in_default-parse
returns-in_default-parse c =
    too_large c.args.bound c.args.bytes.now c.in-Ok.digits.now c.parse.result c.in_default-parse.field-0 c.ranges.bound.fits
    c.in_default-parse.is c.in-Ok.ensures.cases.0 c.parse.ensures.value.0 (sym c.is_numeral.ensures ∙ c.if-not-is_numeral.false)
