use Rattle.std.proofs.Common.{◌≡◌, length, take}
use Rattle.dv_bag.proofs.kept.copy_rest.Given as goal

-- so far each datum was copied
abbrev pub invariant-loop-index : goal.invariant-loop-index
invariant-loop-index l = record {
  count : length l.to ≡ length l.fn.to;
  copied : take l.index l.to ≡ take l.index l.from;
}
