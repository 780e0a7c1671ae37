use Rattle.std.proofs.Common.{◌≡◌, length, take}
use Rattle.std.specs.List.{flat_map}
use Rattle.dv_merge.proofs.span.text_length.Given as goal

abbrev pub invariant-loop-entry : goal.invariant-loop-entry
invariant-loop-entry g l = l.bytes ≡ length (flat_map g.N.OfJob.line (take l.entry-index l.fn.entries))
