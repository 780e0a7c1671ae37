use Rattle.std.proofs.Common.{◌≡◌, length}
use Rattle.dv_work.proofs.lead.new_leads.Given as goal

abbrev pub invariant-loop-process : goal.invariant-loop-process
invariant-loop-process l = length l.leads.items ≡ l._process
