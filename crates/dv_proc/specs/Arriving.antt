-- The links that lead here: what was received by the number of a link, and the least channel clock.
use Rattle.std.specs.Prelude.{◌≡◌, ℕ, zero, suc, ◌+◌, min, Bool, true, false, nat_eq, if◌then◌else◌, List, [], ◌∷◌, map, Option, Some, None}
use Rattle.std.specs.List.{All, list_any}
use Rattle.dv_time.specs.Time.{IsOfRun, rank}
use Rattle.dv_conservative.specs.Process.{Packet, channel_clock, first_time}
use Rattle.dv_proc.specs.declared.incoming.Incoming.{Incoming}

abbrev pub incoming_numbers : List Incoming → List ℕ
incoming_numbers is = map (λ (i : Incoming). i.number) is

-- the packets received on the link of a number
abbrev pub received_by : List Incoming → ℕ → List Packet
received_by [] l = []
received_by (i ∷ is) l = if nat_eq l i.number then i.received.packets else received_by is l

-- the index of the first link of a number, counted from one on
abbrev pub index_from : ℕ → ℕ → List Incoming → Option ℕ
index_from base number [] = None
index_from base number (i ∷ is) = if nat_eq number i.number then Some base else index_from (base + 1) number is

-- at an index is the first link of a number
abbrev pub IsIndex : ℕ → ℕ → List Incoming → Type 0
IsIndex number index [] = ⊥
IsIndex number zero (i ∷ is) = nat_eq number i.number ≡ true
IsIndex number (suc index) (i ∷ is) = (nat_eq number i.number ≡ false) × IsIndex number index is

-- no number comes twice
abbrev pub AreApart : List ℕ → Type 0
AreApart [] = Unit {0}
AreApart (n ∷ ns) = (list_any (nat_eq n) ns ≡ false) × AreApart ns

-- a channel clock is where the window of the last packet ends, a time of the run
abbrev pub IsClocked : ℕ → Incoming → Type 0
IsClocked limit i = (i.clock ≡ channel_clock i.received.packets) × IsOfRun limit i.clock

-- so it is of all links
abbrev pub AreClocked : ℕ → List Incoming → Type 0
AreClocked limit [] = Unit {0}
AreClocked limit (i ∷ is) = IsClocked limit i × AreClocked limit is

-- the rank of the least channel clock, or a bound where that is less
abbrev pub least_among : ℕ → ℕ → List Incoming → ℕ
least_among limit bound [] = bound
least_among limit bound (i ∷ is) = min (rank limit i.clock) (least_among limit bound is)

-- links of some numbers on which nothing was received
abbrev pub AreNewIncoming : List ℕ → List Incoming → Type 0
AreNewIncoming [] [] = Unit {0}
AreNewIncoming (n ∷ ns) (i ∷ is) = (i.number ≡ n) × (i.received.packets ≡ []) × (i.clock ≡ first_time) × AreNewIncoming ns is
AreNewIncoming [] (i ∷ is) = ⊥
AreNewIncoming (n ∷ ns) [] = ⊥
