-- Superdense time under a microstep limit, and the natural numbers that count it.
-- (Zeigler, Praehofer and Kim 2000; the limit is this project's.)
use Rattle.std.specs.Prelude.{ℕ, zero, suc, ◌+◌, ◌*◌, ◌/◌, ◌%◌, ◌≤◌, min, nat_lt, Bool, if◌then◌else◌, List, ◌∷◌, ◌++◌, Option, Some}
use Rattle.std.specs.Prelude.{None, Result, Ok, Err}
use Rattle.std.specs.Fmt.{decimal}
use Rattle.std.specs.Ordering.{is_lt, nat_cmp, ordering_then}
use Rattle.std.specs.declared.cmp.Ordering.{Ordering}
use Rattle.dv_time.specs.declared.time.Time.{Time}
use Rattle.dv_time.specs.declared.time.Next.{Next}
use Rattle.dv_time.specs.declared.time.Next.TheVariants.{At, Never}
use Rattle.dv_time.specs.declared.time.Microsteps.{Microsteps}

-- a time of a run: its microstep is within the limit
abbrev pub IsOfRun : ℕ → Time → Type 0
IsOfRun limit t = t.micro ≤ limit

-- the next microstep, or else the next tick
abbrev pub succ : ℕ → Time → Time
succ limit t = if nat_lt t.micro limit then record { tick = t.tick; micro = t.micro + 1 } else record { tick = t.tick + 1; micro = 0 }

-- when a hold that begins at a time ends; a hold of 0 needs another microstep
abbrev pub after : ℕ → Time → ℕ → Result Time Microsteps
after limit t zero = if nat_lt t.micro limit then Ok (record { tick = t.tick; micro = t.micro + 1 }) else Err (record {})
after limit t (suc hold) = Ok (record { tick = t.tick + suc hold; micro = 0 })

-- the index of a time among the times of a run
abbrev pub rank : ℕ → Time → ℕ
rank limit t = t.tick * (limit + 1) + t.micro

abbrev pub tick_of : ℕ → ℕ → ℕ
tick_of limit n = n / (limit + 1)

abbrev pub micro_of : ℕ → ℕ → ℕ
micro_of limit n = n % (limit + 1)

-- the time at an index
abbrev pub time_of : ℕ → ℕ → Time
time_of limit n = record { tick = tick_of limit n; micro = micro_of limit n }

-- the index of the first time past the horizon
abbrev pub end_of : ℕ → ℕ → ℕ
end_of limit horizon = (horizon + 1) * (limit + 1)

-- the order by tick, then by microstep
abbrev pub time_cmp : Time → Time → Ordering
time_cmp a b = ordering_then (nat_cmp a.tick b.tick) (nat_cmp a.micro b.micro)

-- whether the first time is before the second
abbrev pub is_before : Time → Time → Bool
is_before a b = is_lt (time_cmp a b)

-- the lesser of two ranks, or of two counts of ticks; None is never
abbrev pub earlier : Option ℕ → Option ℕ → Option ℕ
earlier None b = b
earlier (Some x) None = Some x
earlier (Some x) (Some y) = Some (min x y)

-- the earlier of two times; None is never
abbrev pub earliest : Option Time → Option Time → Option Time
earliest None b = b
earliest (Some t) None = Some t
earliest (Some t) (Some u) = if is_before u t then Some u else Some t

-- the rank of a next time, if there is one
abbrev pub next_rank : ℕ → Next → Option ℕ
next_rank limit (At t) = Some (rank limit t)
next_rank limit Never = None

-- `T.K`
abbrev pub time_text : Time → List ℕ
time_text t = decimal t.tick ++ (46 ∷ decimal t.micro)
