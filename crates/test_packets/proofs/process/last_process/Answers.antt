use Rattle.test_packets.proofs.process.last_process.Goals as goal

pub returns : goal.returns
returns c = let h = c.in_ok-process.ensures in record { process = h.process; at_rest = h.settled }
