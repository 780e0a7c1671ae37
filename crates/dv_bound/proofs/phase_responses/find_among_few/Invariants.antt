use Rattle.std.proofs.Common.{◌≡◌, drop, eqb}
use Rattle.std.specs.Map.{lookup}
use Rattle.dv_bound.proofs.phase_responses.find_among_few.Given as goal

abbrev pub invariant-loop-entry : goal.invariant-loop-entry
invariant-loop-entry l = lookup (eqb l.phase) (drop l.entry-index l.entries) ≡ lookup (eqb l.phase) l.entries
