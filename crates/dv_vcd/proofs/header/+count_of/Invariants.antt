use Rattle.dv_vcd.proofs.header.+count_of.Given as goal

abbrev pub decreases-count_of : goal.decreases-count_of
decreases-count_of l = l.depth
