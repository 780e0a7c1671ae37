use Rattle.std.proofs.Common.{◌≡◌, true, take}
use Rattle.std.specs.List.{All}
use Rattle.dv_bag.specs.declared.entry.Entry.{Entry}
use Rattle.dv_merge.specs.Entries.{precedes}
use Rattle.dv_merge.proofs.span.count_before.Given as goal

abbrev pub invariant-loop-index : goal.invariant-loop-index
invariant-loop-index g l = All (λ (e : Entry). precedes e l.bound ≡ true) (take l.index l.entries)
