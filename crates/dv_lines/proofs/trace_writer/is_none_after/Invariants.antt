use Rattle.std.proofs.Common.{◌≡◌, false, take}
use Rattle.std.specs.List.{All}
use Rattle.dv_time.specs.Time.{is_before}
use Rattle.dv_bag.specs.declared.entry.Entry.{Entry}
use Rattle.dv_lines.proofs.trace_writer.is_none_after.Given as goal

abbrev pub invariant-loop-entry : goal.invariant-loop-entry
invariant-loop-entry g l = All (λ (e : Entry). is_before l.first.time e.time ≡ false) (take l.entry-index l.entries)
