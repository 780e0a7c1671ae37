-- What a turn of a process may do, and what it must do.
use Rattle.std.specs.Prelude.{◌≡◌, ℕ, suc, ◌<◌, ◌≤◌, min, ◌⊎◌, Bool, true, false, ◌&&◌, ◌||◌, nat_eq, nat_lt, if◌then◌else◌}
use Rattle.std.specs.Prelude.{is_some, is_none, List, [], ◌∷◌, Option, Some, None}
use Rattle.dv_time.specs.Time.{rank}
use Rattle.dv_time.specs.declared.time.Time.{Time}
use Rattle.dv_conservative.specs.Process.{IsWithin, Outgoing, Packet, Share, end_rank, events_by, least_clock, packet_of, promise}

-- what a turn changes: the clock, and by the number of an outgoing link the packet that is prepared and not put yet, and the end of the
-- last window that was prepared
pub record Position : Type 0 where
  pub clock : Time
  pub standing : ℕ → Option Packet
  pub promised : ℕ → Time

-- a packet was prepared on a link: its window is the next, its events are the local run's, and it ends after it begins and not after the
-- promise of the position after the turn
pub record Prepares (s : Share) (received : ℕ → List Packet) (out : Outgoing) (before after : Position) : Type 0 where
  pub upto : Time
  pub free : before.standing out.number ≡ None
  pub later : rank s.limit (before.promised out.number) < rank s.limit upto
  pub within : IsWithin s upto
  pub kept : rank s.limit upto ≤ promise s received (rank s.limit after.clock)
  pub stands : after.standing out.number ≡ Some (packet_of s (events_by received) out (before.promised out.number) upto)
  pub promised : after.promised out.number ≡ upto

-- a link stays as it is
pub record StaysOn (out : Outgoing) (before after : Position) : Type 0 where
  pub stands : after.standing out.number ≡ before.standing out.number
  pub promised : after.promised out.number ≡ before.promised out.number

-- what a turn may do to a link
abbrev pub MayBecome : Share → (ℕ → List Packet) → Outgoing → Position → Position → Type 0
MayBecome s received out before after = StaysOn out before after ⊎ Prepares s received out before after

abbrev pub AllMayBecome : Share → (ℕ → List Packet) → Position → Position → List Outgoing → Type 0
AllMayBecome s received before after [] = Unit {0}
AllMayBecome s received before after (o ∷ os) = MayBecome s received o before after × AllMayBecome s received before after os

-- a link without a prepared packet before the turn is promised up to the promise of the position after the turn at least, and past the
-- clock unless that is at the end
abbrev pub IsPromised : Share → (ℕ → List Packet) → Position → Position → Outgoing → Type 0
IsPromised s received before after o =
    before.standing o.number ≡ None
    → (promise s received (rank s.limit after.clock) ≤ rank s.limit (after.promised o.number))
    × (min (suc (rank s.limit after.clock)) (end_rank s) ≤ rank s.limit (after.promised o.number))

abbrev pub AllPromised : Share → (ℕ → List Packet) → Position → Position → List Outgoing → Type 0
AllPromised s received before after [] = Unit {0}
AllPromised s received before after (o ∷ os) = IsPromised s received before after o × AllPromised s received before after os

-- What a turn may do: the clock does not fall and passes neither a channel clock nor the end; on an outgoing link without a prepared packet
-- the next one may be prepared.
pub record MayTurn (s : Share) (received : ℕ → List Packet) (before after : Position) : Type 0 where
  pub rises : rank s.limit before.clock ≤ rank s.limit after.clock
  pub within : IsWithin s after.clock
  pub heard : rank s.limit after.clock ≤ least_clock s received
  pub links : AllMayBecome s received before after s.outgoing

-- What it must do: the clock rises, or is the least channel clock; and each link that was free is promised.
pub record Progresses (s : Share) (received : ℕ → List Packet) (before after : Position) : Type 0 where
  pub clock : (rank s.limit after.clock ≡ least_clock s received) ⊎ (rank s.limit before.clock < rank s.limit after.clock)
  pub links : AllPromised s received before after s.outgoing

-- a turn as in its contract
pub record IsTurnOf (s : Share) (received : ℕ → List Packet) (before after : Position) : Type 0 where
  pub may : MayTurn s received before after
  pub must : Progresses s received before after

-- what a turn answers
pub data Turned : Type 0 where
  Moved : Turned
  Waiting : Turned
  Done : Turned

-- whether no packet is prepared on any outgoing link
abbrev pub all_free : Position → List Outgoing → Bool
all_free x [] = true
all_free x (o ∷ os) = is_none (x.standing o.number) && all_free x os

-- whether a packet was prepared: there is one where there was none
abbrev pub some_prepared : Position → Position → List Outgoing → Bool
some_prepared before after [] = false
some_prepared before after (o ∷ os) =
    (is_none (before.standing o.number) && is_some (after.standing o.number)) || some_prepared before after os

-- at the end, without prepared packets, it is done; else it moved if the clock rose or a packet was prepared
abbrev pub turned : Share → Position → Position → Turned
turned s before after =
    if nat_eq (rank s.limit after.clock) (end_rank s) && all_free after s.outgoing then Done
    else if nat_lt (rank s.limit before.clock) (rank s.limit after.clock) || some_prepared before after s.outgoing then Moved
    else Waiting

-- two positions are the same: the clock, and what is prepared and was promised on the outgoing links
abbrev pub AllStayOn : List Outgoing → Position → Position → Type 0
AllStayOn [] before after = Unit {0}
AllStayOn (o ∷ os) before after = StaysOn o before after × AllStayOn os before after
