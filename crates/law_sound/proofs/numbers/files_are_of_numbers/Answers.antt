use Rattle.law_sound.proofs.Spelled.{file_of_numbers}
use Rattle.law_sound.proofs.numbers.files_are_of_numbers.Goals as goal

pub returns : goal.returns
returns c = file_of_numbers
