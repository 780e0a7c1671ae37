use Rattle.std.proofs.Common.{[], map, replicate}
use Rattle.dv_tree.proofs.Gathered.{Gathers}
use Rattle.dv_tree.proofs.levels.empty_bags.Given as goal

abbrev pub invariant-loop-count : goal.invariant-loop-count
invariant-loop-count l = Gathers (map (λ ports. replicate ports [])) l.bags.items l.count-index l.ports
