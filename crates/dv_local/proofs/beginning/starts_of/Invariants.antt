use Rattle.std.proofs.Common.{◌≡◌, ◌++◌, drop}
use Rattle.dv_share.specs.Share.{starts_of}
use Rattle.dv_local.proofs.beginning.starts_of.Given as goal

abbrev pub invariant-loop-member : goal.invariant-loop-member
invariant-loop-member l = l.running.items ++ starts_of (drop l.member-index l.members) ≡ starts_of l.members
