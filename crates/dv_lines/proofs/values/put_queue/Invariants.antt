use Rattle.std.proofs.Common.{◌≡◌, ◌≤◌, ◌++◌, true, drop, length, take}
use Rattle.dv_text.specs.Writing.{values_from}
use Rattle.dv_lines.proofs.values.put_queue.Given as goal

abbrev pub invariant-loop-number : goal.invariant-loop-number
invariant-loop-number l = record {
  size : length l.to ≡ length l.initial.to;
  at : l.at ≤ length l.to;
  text :
      take l.at l.to ++ values_from l.is_first (drop l.number l.values)
      ≡ take l.initial.at l.initial.to ++ values_from true l.values;
}
