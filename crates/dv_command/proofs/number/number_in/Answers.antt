use Rattle.std.proofs.Common.{sym, ◌∙◌}
use Rattle.dv_command.proofs.Digits.{too_large}
use Rattle.dv_command.proofs.number.number_in.Goals as goal

pub returns-in_default : goal.returns-in_default
returns-in_default c =
    too_large c.args.least c.args.greatest c.args.text.now c.parse.result c.in_default.field-0 c.ranges.greatest.fits
    c.in_default.is c.parse.ensures.value.0 (sym c.is_numeral.ensures ∙ c.if-not-is_numeral.false)
