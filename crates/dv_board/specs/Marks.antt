-- What is written from mark to mark.
use Rattle.std.specs.Prelude.{List, [], ◌∷◌}
use Rattle.dv_time.specs.declared.time.Time.{Time}
use Rattle.dv_bag.specs.Part.{PartOf, joined}
use Rattle.dv_conservative.specs.World.{Job}
use Rattle.dv_board.specs.Clocks.{IsNoLater}
use Rattle.dv_board.specs.Jobs.{trace}

-- no mark is before the one in front of it, and the first not before a time
abbrev pub RiseSince : Job → Time → List Time → Type 0
RiseSince job from [] = Unit {0}
RiseSince job from (mark ∷ marks) = IsNoLater job from mark × RiseSince job mark marks

-- the last mark, or the time from which they rise
abbrev pub last_mark : Time → List Time → Time
last_mark from [] = from
last_mark from (mark ∷ marks) = last_mark mark marks

-- what was written before a time, and then the pieces of the trace from mark to mark, joined in turn
abbrev pub written_by : Job → PartOf → Time → List Time → PartOf
written_by job written from [] = written
written_by job written from (mark ∷ marks) = written_by job (joined written (trace job from mark)) mark marks
