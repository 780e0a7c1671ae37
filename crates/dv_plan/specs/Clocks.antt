-- The least of the clocks of processes.
use Rattle.std.specs.Prelude.{if◌then◌else◌, List, [], ◌∷◌}
use Rattle.dv_time.specs.Time.{is_before}
use Rattle.dv_time.specs.declared.time.Time.{Time}
use Rattle.dv_conservative.specs.Process.{first_time}

-- the least of a time and others
abbrev pub least_after : Time → List Time → Time
least_after t [] = t
least_after t (u ∷ us) = least_after (if is_before u t then u else t) us

abbrev pub least_time : List Time → Time
least_time [] = first_time
least_time (t ∷ ts) = least_after t ts
