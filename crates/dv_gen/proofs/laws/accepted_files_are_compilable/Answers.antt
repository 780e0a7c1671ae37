use Rattle.dv_gen.proofs.Compilable.{file_compilable}
use Rattle.dv_gen.proofs.laws.accepted_files_are_compilable.Goals as goal

pub returns : goal.returns
returns c = file_compilable
