use Rattle.std.proofs.Common.{sym, ◌∙◌}
use Rattle.dv_inputs.specs.Steps.{number_in}
use Rattle.dv_inputs.proofs.Ranges.{tested_said}
use Rattle.dv_inputs.proofs.reader.read_line.Goals as goal

pub push-requires-clause-within : goal.push-requires-clause-within
push-requires-clause-within c =
    (tested_said (number_in c.args.numbers.now) c.args.limit c.last_time.result c.args.bytes.now c.in-Ok.input
    (sym c.tested_line.ensures ∙ c.in-Ok.is)).tick
