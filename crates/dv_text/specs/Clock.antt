-- The names by which a clock is written.
use Rattle.std.specs.Prelude.{ℕ, List, [], ◌∷◌, codes}
use Rattle.dv_text.specs.Texts.{ComponentNames}

abbrev pub clock_names : List ComponentNames
clock_names =
    record { path = codes "t"; phases = codes "run" ∷ codes "stop" ∷ []; variables = codes "n" ∷ []; outputs = codes "beat" ∷ [] } ∷ []

abbrev pub clock_outputs : List (List ℕ)
clock_outputs = codes "o" ∷ []
