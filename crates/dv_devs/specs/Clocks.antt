-- How far a run in parts has come.
use Rattle.std.specs.Prelude.{ℕ, List, [], ◌∷◌, min}
use Rattle.dv_time.specs.Time.{rank}
use Rattle.dv_time.specs.declared.time.Time.{Time}

-- the rank of the least of clocks
abbrev pub least_rank : ℕ → List Time → ℕ
least_rank limit [] = 0
least_rank limit (t ∷ []) = rank limit t
least_rank limit (t ∷ u ∷ ts) = min (rank limit t) (least_rank limit (u ∷ ts))
