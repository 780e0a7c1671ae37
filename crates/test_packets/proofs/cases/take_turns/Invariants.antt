use Rattle.test_packets.proofs.cases.take_turns.Given as goal

abbrev pub invariant-loop-turn : goal.invariant-loop-turn
invariant-loop-turn g l = g.P.LogicalProcess.valid l.process
