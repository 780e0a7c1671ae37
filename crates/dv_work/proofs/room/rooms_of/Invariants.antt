use Rattle.std.proofs.Common.{◌≡◌, length}
use Rattle.dv_work.proofs.room.rooms_of.Given as goal

abbrev pub invariant-loop-link : goal.invariant-loop-link
invariant-loop-link l = length l.rooms.items ≡ l._link
