use Rattle.std.proofs.Common.{◌≡◌, ◌+◌, ◌≤◌, length}
use Rattle.dv_inputs.specs.Lines.{lines_of}
use Rattle.dv_inputs.specs.Reading.{reading_after}
use Rattle.dv_inputs.specs.Steps.{number_in}
use Rattle.dv_inputs.proofs.reader.read_lines.Given as goal

abbrev pub invariant-loop-rest : goal.invariant-loop-rest
invariant-loop-rest l = record {
  few : l.line + length l.rest ≤ length l.text;
  reading : reading_after (number_in l.numbers) l.limit l.fn.inputs 1 (lines_of l.text)
      ≡ reading_after (number_in l.numbers) l.limit l.inputs (l.line + 1) (lines_of l.rest);
}

abbrev pub decreases-loop-rest : goal.decreases-loop-rest
decreases-loop-rest l = length l.rest
