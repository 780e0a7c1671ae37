use Rattle.dv_parser.proofs.Models.{file_unique}
use Rattle.dv_parser.proofs.laws.tokens_spell_one_file.Goals as goal

pub returns : goal.returns
returns c = file_unique
