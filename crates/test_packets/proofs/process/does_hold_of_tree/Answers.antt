use Rattle.test_packets.proofs.process.does_hold_of_tree.Goals as goal

pub does_hold_of_job-requires-clause-links : goal.does_hold_of_job-requires-clause-links
does_hold_of_job-requires-clause-links c = record {
  direct = c.in_ok-links.ensures.direct;
  entries = c.in_ok-links.ensures.entries;
  exits = c.in_ok-links.ensures.exits;
}
