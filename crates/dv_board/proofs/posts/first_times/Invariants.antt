use Rattle.std.proofs.Common.{◌≡◌, replicate}
use Rattle.dv_conservative.specs.Process.{first_time}
use Rattle.dv_board.proofs.posts.first_times.Given as goal

abbrev pub invariant-loop : goal.invariant-loop
invariant-loop l = l.times.items ≡ replicate l.counter first_time
