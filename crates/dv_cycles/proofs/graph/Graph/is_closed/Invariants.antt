use Rattle.std.proofs.Common.{◌<◌, ℕ, List, get_or, length, All}
use Rattle.dv_cycles.proofs.graph.Graph.is_closed.Given as goal

abbrev pub invariant-loop-node : goal.invariant-loop-node
invariant-loop-node l = (k : ℕ) (d : List ℕ) → k < l.node → All (λ v. v < length l.self) (get_or l.self k d)
