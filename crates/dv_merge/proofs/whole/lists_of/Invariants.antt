use Rattle.std.proofs.Common.{◌≡◌, map}
use Rattle.dv_merge.specs.Spans.{entries_of}
use Rattle.dv_merge.proofs.whole.lists_of.Given as goal

abbrev pub invariant-loop-part : goal.invariant-loop-part
invariant-loop-part g l = record {
  entries : map (λ list. entries_of list.items) l.entries.items ≡ map (λ part. part.entries) l.yielded;
  lines : map (λ list. list.items) l.lines.items ≡ map (λ part. part.outer) l.yielded;
}
