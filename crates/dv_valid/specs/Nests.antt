-- What a nest of bodies means.
use Rattle.std.specs.Prelude.{List, [], ◌∷◌}
use Rattle.dv_code.specs.Valid.{Body as Meant}
use Rattle.dv_valid.specs.declared.nest.Body.{Body}
use Rattle.dv_valid.specs.declared.nest.Nest.{Nest}
use Rattle.dv_valid.specs.declared.nest.Nest.TheVariants.{Outside, One, Two, Three}

-- a body, as validity speaks of it
abbrev pub meant_body : Body → Meant
meant_body b = record { first = b.first; past = b.past }

-- the bodies of a nest, the innermost first
abbrev pub bodies : Nest → List Meant
bodies Outside = []
bodies (One a) = meant_body a ∷ []
bodies (Two a b) = meant_body a ∷ meant_body b ∷ []
bodies (Three a b c) = meant_body a ∷ meant_body b ∷ meant_body c ∷ []
