use Rattle.test_packets.proofs.cases.does_answer.Given as goal

abbrev pub invariant-loop-row : goal.invariant-loop-row
invariant-loop-row g l = g.P.LogicalProcess.valid l.process
