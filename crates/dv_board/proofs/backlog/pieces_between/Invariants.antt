use Rattle.std.proofs.Common.{◌≡◌, map, take}
use Rattle.dv_bag.specs.Part.{before, since}
use Rattle.dv_board.specs.Stretches.{part_of}
use Rattle.dv_board.proofs.backlog.pieces_between.Given as goal

abbrev pub invariant-loop-kept : goal.invariant-loop-kept
invariant-loop-kept g l = l.pieces.items ≡ map (λ h. since l.fn.from (before l.fn.upto (part_of h))) (take l.kept-index l.fn.held)
