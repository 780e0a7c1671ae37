-- What a backlog keeps of a process, and what becomes of it.
use Rattle.std.specs.Prelude.{◌≡◌, ◌-◌, ◌++◌, ◌||◌, Bool, false, if◌then◌else◌, List, [], ◌∷◌, length, nat_eq, nat_le}
use Rattle.dv_time.specs.Time.{is_before}
use Rattle.dv_time.specs.declared.time.Time.{Time}
use Rattle.dv_bag.specs.Part.{IsByTime, PartOf, joined, nothing, since}
use Rattle.dv_conservative.specs.Process.{first_time}
use Rattle.dv_board.specs.declared.held.Stretch.{Stretch}

-- what a process committed from one time on and before its clock: stretches that follow one another, and what is behind the last of them
pub record HeldOf (N : Type 0) : Type 0 where
  pub from : Time
  pub clock : Time
  pub ended : List (Stretch N)
  pub last : PartOf

-- of a process at 0.0
abbrev pub nothing_held : {N : Type 0} → HeldOf N
nothing_held = record { from = first_time; clock = first_time; ended = []; last = nothing }

-- stretches joined in turn, behind a part
abbrev pub joined_in_turn : {N : Type 0} → PartOf → List (Stretch N) → PartOf
joined_in_turn front [] = front
joined_in_turn front (s ∷ ss) = joined_in_turn (joined front s.part) ss

-- all that is kept
abbrev pub part_of : {N : Type 0} → HeldOf N → PartOf
part_of h = joined (joined_in_turn nothing h.ended) h.last

-- stretches that stand by time, each with nothing before a time, which is for the next one the end of the one in front of it
abbrev pub AreInTurn : {N : Type 0} → Time → List (Stretch N) → Type 0
AreInTurn begin [] = Unit {0}
AreInTurn begin (s ∷ ss) =
    IsByTime s.part × (since begin s.part ≡ s.part) × (is_before s.upto begin ≡ false) × AreInTurn s.upto ss

-- all that is kept stands by time
abbrev pub AreByTime : {N : Type 0} → HeldOf N → Type 0
AreByTime h = AreInTurn first_time h.ended × IsByTime h.last

-- whether a part is joined to the last stretch: there is nothing in that, or they have 64 entries together at most
abbrev pub is_joined : PartOf → PartOf → Bool
is_joined last more = nat_eq (length last.entries) 0 || nat_le (length more.entries) (64 - length last.entries)

-- with a part behind the others, up to a clock
abbrev pub with_more : {N : Type 0} → HeldOf N → PartOf → Time → HeldOf N
with_more h more clock =
    if is_joined h.last more then record { from = h.from; clock = clock; ended = h.ended; last = joined h.last more }
    else record { from = h.from; clock = clock; ended = h.ended ++ record { upto = h.clock; part = h.last } ∷ []; last = more }

-- with what a piece has from the clock on, where it reaches past it
abbrev pub with_piece : {N : Type 0} → HeldOf N → PartOf → Time → HeldOf N
with_piece h piece clock = if is_before h.clock clock then with_more h (since h.clock piece) clock else h

-- stretches less those in front that end no later than a time, and where the others begin
abbrev pub ended_past : {N : Type 0} → Time → List (Stretch N) → List (Stretch N)
ended_past time [] = []
ended_past time (s ∷ ss) = if is_before time s.upto then s ∷ ss else ended_past time ss

abbrev pub start_past : {N : Type 0} → Time → Time → List (Stretch N) → Time
start_past time from [] = from
start_past time from (s ∷ ss) = if is_before time s.upto then from else start_past time s.upto ss

-- less the stretches that end no later than a time
abbrev pub rest_of : {N : Type 0} → Time → HeldOf N → HeldOf N
rest_of time h =
    if is_before time h.clock then record
    { from = start_past time h.from h.ended; clock = h.clock; ended = ended_past time h.ended; last = h.last }
    else record { from = h.clock; clock = h.clock; ended = []; last = nothing }
