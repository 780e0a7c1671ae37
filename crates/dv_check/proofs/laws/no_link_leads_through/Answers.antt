use Rattle.dv_check.proofs.CheckedFiles.{none_through}
use Rattle.dv_check.proofs.laws.no_link_leads_through.Goals as goal

pub returns : goal.returns
returns c = none_through
