use Rattle.std.proofs.Common.{◌≡◌, drop}
use Rattle.dv_check.specs.Tables.{entry_for}
use Rattle.dv_check.proofs.directory.entry_for.Given as goal

abbrev pub invariant-loop-entry : goal.invariant-loop-entry
invariant-loop-entry g l = entry_for (drop l.entry-index l.entries) l.number ≡ entry_for l.entries l.number
