use Rattle.std.proofs.Common.{ap, ◌∙◌}
use Rattle.dv_check.specs.Refusals.{refusal_of}
use Rattle.dv_syntax.specs.Trees.{file_of}
use Rattle.test_packets.proofs.process.does_hold_of_checked.Goals as goal

pub does_hold_of_tree-requires-clause-accepted : goal.does_hold_of_tree-requires-clause-accepted
does_hold_of_tree-requires-clause-accepted c = ap (λ file. refusal_of (file_of file)) c.in_ok-tree.ensures.0 ∙ c.requires.accepted
