use Rattle.std.proofs.Common.{◌≡◌, ◌+◌, ◌-◌, ◌<◌, ◌++◌, length, take, drop}
use Rattle.dv_lines.proofs.pieces.put_sixteens.Given as goal

abbrev pub invariant-loop-done : goal.invariant-loop-done
invariant-loop-done l = record {
  size : length l.to ≡ length l.initial.to;
  within : l.done < l.count + 16;
  text : take (l.at + l.done) l.to ≡ take l.at l.initial.to ++ take l.done (drop l.start l.bytes);
}

abbrev pub decreases-loop-done : goal.decreases-loop-done
decreases-loop-done l = (l.count + 16) - l.done
