use Rattle.law_sound.proofs.Readings.{read_numbers}
use Rattle.law_sound.proofs.numbers.inputs_are_of_numbers.Goals as goal

pub returns : goal.returns
returns c = read_numbers
