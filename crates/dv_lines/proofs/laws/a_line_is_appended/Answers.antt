use Rattle.dv_lines.proofs.Appending.{entry_appended}
use Rattle.dv_lines.proofs.laws.a_line_is_appended.Goals as goal

pub returns : goal.returns
returns c = entry_appended
