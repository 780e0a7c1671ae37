-- The slots of a wheel of times, and what is known of the least wait in each.
use Rattle.std.specs.Prelude.{◌≡◌, ℕ, zero, suc, ◌+◌, ◌*◌, ◌/◌, ◌%◌, ◌<◌, ◌≤◌, nat_eq, if◌then◌else◌, Bool, false, List, Option}
use Rattle.std.specs.Prelude.{Some, None, slice_index_or}
use Rattle.dv_time.specs.declared.time.Time.{Time}
use Rattle.dv_time.specs.Time.{earliest}
use Rattle.dv_agenda.specs.declared.least.Least.{Least}

-- The slot of a tick: 64 for each digit in base 64 above which it is as the present tick is, from a level on, and behind so many
-- digits one slot for all others.
unfoldable pub slot_from : ℕ → ℕ → ℕ → ℕ → ℕ
slot_from zero level tick now = 64 * level
slot_from (suc levels) level tick now =
    if nat_eq (tick / 64) (now / 64) then 64 * level + tick % 64 else slot_from levels (level + 1) (tick / 64) (now / 64)

unfoldable pub slot : ℕ → ℕ → ℕ
slot tick now = slot_from 10 0 tick now

-- a wait does not end before a tick
abbrev pub IsFrom : ℕ → Option Time → Type 0
IsFrom now None = Unit {0}
IsFrom now (Some t) = now ≤ t.tick

-- no wait ends before a tick
abbrev pub AreFrom : List (Option Time) → ℕ → Type 0
AreFrom waits now = (index : ℕ) → IsFrom now (slice_index_or waits index None)

-- nothing is known of the least wait in a slot, or that it has no component
abbrev pub unknown : Least
unknown = record { time = record { tick = 0; micro = 0 } }

abbrev pub nothing : Least
nothing = record { time = record { tick = 18446744073709551615; micro = 0 } }

-- a time is the least wait in a slot, as far as it is known
abbrev pub IsTold : Least → Time → Type 0
IsTold least t = (least.time ≡ t) × ((0 < t.tick) × (t.tick < 18446744073709551615))

-- what is known of the least wait in a slot
abbrev pub least_at : List Least → ℕ → Least
least_at leasts s = slice_index_or leasts s unknown

-- a wait does not end before the least one
abbrev pub IsLow : Least → Option Time → Type 0
IsLow least w = earliest (Some least.time) w ≡ Some least.time

-- a time of a slot is what a component waits for
abbrev pub IsOfSlot : List (Option Time) → ℕ → ℕ → Time → Type 0
IsOfSlot waits now s t = (slot t.tick now ≡ s) × ((index : ℕ) × (slice_index_or waits index None ≡ Some t))

-- the least wait in a slot, where it is known, is one of the slot
abbrev pub IsHeld : List (Option Time) → ℕ → ℕ → Least → Type 0
IsHeld waits now s least = (t : Time) → IsTold least t → IsOfSlot waits now s t

-- has a wait a slot
abbrev pub in_slot : ℕ → ℕ → Option Time → Bool
in_slot now s None = false
in_slot now s (Some t) = nat_eq (slot t.tick now) s
