use Rattle.std.proofs.Common.{◌≡◌, drop}
use Rattle.dv_tree.specs.Reached.{marking_of, with_marks}
use Rattle.dv_tree.proofs.reached.Walk.mark_parts.Given as goal

abbrev pub invariant-loop-part : goal.invariant-loop-part
invariant-loop-part l =
    with_marks l.names (drop l.part-index l.parts) (marking_of l.self) ≡ with_marks l.names l.parts (marking_of l.fn.self)
