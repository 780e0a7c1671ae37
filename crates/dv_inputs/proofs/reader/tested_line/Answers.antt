use Rattle.std.proofs.lemmas.Str.{is_utf8-from_IsUtf8}
use Rattle.dv_inputs.proofs.Digits.{not_utf8}
use Rattle.dv_inputs.proofs.reader.tested_line.Goals as goal

pub returns-in-Ok : goal.returns-in-Ok
returns-in-Ok c = rw (is_utf8-from_IsUtf8 c.args.line.now c.in-Ok.ensures.cases.1) c.input_of.ensures

pub returns-in-Err : goal.returns-in-Err
returns-in-Err c = rw (not_utf8 c.args.line.now c.in-Err.ensures.cases.0)
