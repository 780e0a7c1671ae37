use Rattle.dv_graph.proofs.nodes.+write_nodes.Given as goal

abbrev pub decreases-write_nodes : goal.decreases-write_nodes
decreases-write_nodes g l = l.depth
