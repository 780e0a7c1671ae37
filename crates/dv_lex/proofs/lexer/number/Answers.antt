use Rattle.std.specs.Str.Parse.{digits_value}
use Rattle.dv_lex.proofs.Ascii.{number_from_digits, refused_number}
use Rattle.dv_lex.proofs.lexer.number.Goals as goal

pub returns-in-Err : goal.returns-in-Err
returns-in-Err c =
    refused_number (digits_value 10 c.args.digits.now) c.parse.result c.in-Err.field-0 c.in-Err.is
    (number_from_digits c.args.digits.now c.parse.result c.parse.ensures.value.0 c.requires.digits c.requires.some)
