use Rattle.std.proofs.Common.{◌≡◌, ◌+◌, drop, length, map}
use Rattle.std.specs.Vec.Iter.{into_iter_items, into_iter_len}
use Rattle.dv_plan.specs.Steps.{AreMade}
use Rattle.dv_plan.proofs.share.shares.Given as goal

-- the shares of the processes so far are made, and the components of the rest are left
abbrev pub invariant-loop-process : goal.invariant-loop-process
invariant-loop-process g l = record {
  left : into_iter_len l.rest + l.process ≡ length l.fn.members.items;
  rest : into_iter_items l.rest ≡ drop l.process l.fn.members.items;
  count : length l.found.items ≡ l.process;
  made : AreMade l.common (map (λ list. list.items) l.fn.members.items) l.models l.found.items;
}
