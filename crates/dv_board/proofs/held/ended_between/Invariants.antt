use Rattle.std.proofs.Common.{◌≡◌, drop, take}
use Rattle.dv_bag.specs.Part.{before, nothing, since}
use Rattle.dv_board.specs.Stretches.{AreInTurn, joined_in_turn}
use Rattle.dv_board.proofs.held.ended_between.Given as goal

abbrev pub invariant-loop-index : goal.invariant-loop-index
invariant-loop-index g l =
    (l.part ≡ since l.fn.from (before l.fn.upto (joined_in_turn nothing (take l.index l.fn.ended.items))))
    × AreInTurn l.start (drop l.index l.fn.ended.items)
