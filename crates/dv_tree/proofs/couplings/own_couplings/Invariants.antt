use Rattle.dv_tree.specs.Couplings.{own_couplings}
use Rattle.dv_tree.proofs.Gathered.{Gathers}
use Rattle.dv_tree.proofs.couplings.own_couplings.Given as goal

abbrev pub invariant-loop-link : goal.invariant-loop-link
invariant-loop-link l = Gathers own_couplings l.couplings.items l.link-index l.links
