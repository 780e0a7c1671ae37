use Rattle.std.proofs.Common.{◌≡◌, false, List, take}
use Rattle.std.specs.List.{list_any}
use Rattle.dv_bag.specs.declared.entry.Entry.{Entry}
use Rattle.dv_written.specs.Faults.{is_fault}
use Rattle.dv_merge.proofs.part_refs.PartRefs.has_fault.Given as goal

abbrev pub invariant-loop-span : goal.invariant-loop-span
invariant-loop-span g l =
    list_any (λ (span : List Entry). list_any (λ (e : Entry). is_fault e.what) span) (take l.span-index l.spans) ≡ false
