use Rattle.std.proofs.Common.{◌≡◌, ℕ, suc, ◌-◌, length}
use Rattle.dv_check.specs.Tables.{value_at}
use Rattle.dv_check.proofs.table.lengthen.Given as goal

abbrev pub invariant-loop-entries : goal.invariant-loop-entries
invariant-loop-entries g l = (q : ℕ) → value_at l.entries.items q ≡ value_at l.initial.entries.items q

abbrev pub decreases-loop-entries : goal.decreases-loop-entries
decreases-loop-entries g l = suc l.index - length l.entries.items
