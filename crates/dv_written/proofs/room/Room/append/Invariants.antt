use Rattle.std.proofs.Common.{◌≡◌}
use Rattle.dv_written.proofs.room.Room.append.Given as goal

abbrev pub invariant-loop-doubling : goal.invariant-loop-doubling
invariant-loop-doubling g l = l.self ≡ l.initial.self
