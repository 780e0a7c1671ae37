use Rattle.dv_check.proofs.CheckedFiles.{file_accepted}
use Rattle.dv_check.proofs.laws.checked_files.Goals as goal

pub returns : goal.returns
returns c = file_accepted
