-- When inputs come from outside, as a run walks to them.
use Rattle.std.specs.Prelude.{ℕ, Option, option_map, IfSome}
use Rattle.dv_time.specs.Time.{IsOfRun, rank}
use Rattle.dv_time.specs.declared.time.Time.{Time}

-- the rank of a time, if there is one
abbrev pub rank_if : ℕ → Option Time → Option ℕ
rank_if limit t = option_map (rank limit) t

-- a time, if there is one, is one of the run
abbrev pub IsOfRunIf : ℕ → Option Time → Type 0
IsOfRunIf limit t = IfSome t (IsOfRun limit)
