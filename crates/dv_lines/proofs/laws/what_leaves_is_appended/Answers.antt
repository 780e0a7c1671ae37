use Rattle.dv_lines.proofs.Appending.{outers_appended}
use Rattle.dv_lines.proofs.laws.what_leaves_is_appended.Goals as goal

pub returns : goal.returns
returns c = outers_appended
