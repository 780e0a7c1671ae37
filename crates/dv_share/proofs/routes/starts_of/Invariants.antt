use Rattle.dv_share.proofs.Starts.{AreBegun}
use Rattle.dv_share.proofs.routes.starts_of.Given as goal

abbrev pub invariant-loop-index : goal.invariant-loop-index
invariant-loop-index l = AreBegun l.links l.starts.items l.index
