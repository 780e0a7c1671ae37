use Rattle.dv_flat.proofs.live.+add_live.Given as goal

abbrev pub decreases-add_live : goal.decreases-add_live
decreases-add_live l = l.depth
