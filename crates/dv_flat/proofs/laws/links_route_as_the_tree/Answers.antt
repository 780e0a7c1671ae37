use Rattle.dv_flat.proofs.LinkSums.{links_arrive, links_leave}
use Rattle.dv_flat.proofs.Routed.{all_arrive, all_leave}
use Rattle.dv_flat.proofs.laws.links_route_as_the_tree.Goals as goal

pub returns : goal.returns
returns c = record { arrives = links_arrive; leaves = links_leave; all_arrive = all_arrive; all_leave = all_leave }
