use Rattle.dv_syntax.specs.Trees.{file_of}
use Rattle.dv_tree.specs.Reached.{marking_of}
use Rattle.dv_tree.proofs.Markings.{IsMarking, to_do}
use Rattle.dv_tree.proofs.reached.marks_of.Given as goal

abbrev pub invariant-loop-index : goal.invariant-loop-index
invariant-loop-index l = IsMarking (file_of l.file) (marking_of l.walk)

abbrev pub decreases-loop-index : goal.decreases-loop-index
decreases-loop-index l = to_do (marking_of l.walk)
