use Rattle.dv_cycles.proofs.Ways.{Way-from_has_way, has_way-from_Way}
use Rattle.dv_cycles.proofs.laws.ways_are_edges_in_a_row.Goals as goal

pub returns : goal.returns
returns c = λ graph u v g. (Way-from_has_way graph u v, has_way-from_Way graph g)
