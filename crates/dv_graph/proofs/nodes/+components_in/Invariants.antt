use Rattle.dv_graph.proofs.nodes.+components_in.Given as goal

abbrev pub decreases-components_in : goal.decreases-components_in
decreases-components_in l = l.depth
