-- The links that lead away: what is prepared and promised, by the number of a link, and what waits to be sent.
use Rattle.std.specs.Prelude.{◌≡◌, ℕ, zero, suc, ◌+◌, true, false, nat_eq, nat_lt, Bool, ◌&&◌, is_none, if◌then◌else◌, List, []}
use Rattle.std.specs.Prelude.{◌∷◌, ◌++◌, map, option_map, Option, Some, None}
use Rattle.dv_time.specs.Time.{is_before, rank}
use Rattle.dv_time.specs.declared.time.Time.{Time}
use Rattle.dv_conservative.specs.Events.{Event, events_between}
use Rattle.dv_conservative.specs.Process.{IsWithin, Packet, Share, first_time, sent_on, Outgoing as OutgoingAsMeant}
use Rattle.dv_conservative.specs.Turn.{Position}
use Rattle.dv_proc.specs.Packets.{meant_events, meant_packet}
use Rattle.dv_proc.specs.declared.packet.Packet.{Packet as PacketOfCode}
use Rattle.dv_proc.specs.declared.outgoing.Outgoing.{Outgoing}

abbrev pub outgoing_numbers : List Outgoing → List ℕ
outgoing_numbers os = map (λ (o : Outgoing). o.number) os

-- the packet that is meant, if there is one
abbrev pub standing_on : Option PacketOfCode → Option Packet
standing_on None = None
standing_on (Some p) = Some (meant_packet p)

-- the packet that is prepared on the link with a number
abbrev pub standing_by : List Outgoing → ℕ → Option Packet
standing_by [] l = None
standing_by (o ∷ os) l = if nat_eq l o.number then standing_on o.standing else standing_by os l

-- where the last window that was prepared on the link of a number ends
abbrev pub promised_by : List Outgoing → ℕ → Time
promised_by [] l = first_time
promised_by (o ∷ os) l = if nat_eq l o.number then o.promised else promised_by os l

-- the position of a process
abbrev pub position_by : Time → List Outgoing → Position
position_by clock os = record { clock = clock; standing = standing_by os; promised = promised_by os }

-- what is sent on a link and is in no packet yet waits: all events from what was promised on and before a rank
pub record IsPending (s : Share) (events : ℕ → List Event) (upto : ℕ) (out : OutgoingAsMeant) (o : Outgoing) : Type 0 where
  pub number : out.number ≡ o.number
  pub within : IsWithin s o.promised
  pub pending : meant_events o.pending.items ≡ events_between s.limit (sent_on s events out) (rank s.limit o.promised) upto

-- so it is on all links
abbrev pub ArePending : Share → (ℕ → List Event) → ℕ → List OutgoingAsMeant → List Outgoing → Type 0
ArePending s events upto [] [] = Unit {0}
ArePending s events upto (out ∷ outs) (o ∷ os) = IsPending s events upto out o × ArePending s events upto outs os
ArePending s events upto [] (o ∷ os) = ⊥
ArePending s events upto (out ∷ outs) [] = ⊥

-- whether a window is prepared: no packet is waiting, and more is promised
abbrev pub is_prepared : Time → Outgoing → Bool
is_prepared upto o = is_none o.standing && is_before o.promised upto

-- links of some numbers on which nothing was sent or promised
abbrev pub AreNewOutgoing : List ℕ → List Outgoing → Type 0
AreNewOutgoing [] [] = Unit {0}
AreNewOutgoing (n ∷ ns) (o ∷ os) =
    (o.number ≡ n) × (o.standing ≡ None) × (o.promised ≡ first_time) × (o.pending.items ≡ []) × AreNewOutgoing ns os
AreNewOutgoing [] (o ∷ os) = ⊥
AreNewOutgoing (n ∷ ns) [] = ⊥

-- at an index is the first link of a number
abbrev pub IsOutIndex : ℕ → ℕ → List Outgoing → Type 0
IsOutIndex number index [] = ⊥
IsOutIndex number zero (o ∷ os) = nat_eq number o.number ≡ true
IsOutIndex number (suc index) (o ∷ os) = (nat_eq number o.number ≡ false) × IsOutIndex number index os

-- the index of the first link of a number, counted from one on
abbrev pub out_index_from : ℕ → ℕ → List Outgoing → Option ℕ
out_index_from base number [] = None
out_index_from base number (o ∷ os) = if nat_eq number o.number then Some base else out_index_from (base + 1) number os
