use Rattle.std.proofs.Common.{length, map}
use Rattle.dv_tree.specs.Tables.{ports_at}
use Rattle.dv_tree.proofs.Gathered.{Gathers}
use Rattle.dv_tree.proofs.levels.input_counts.Given as goal

abbrev pub invariant-loop-part : goal.invariant-loop-part
invariant-loop-part l = Gathers (λ parts. map length (ports_at l.inputs parts)) l.counts.items l.part-index l.parts
