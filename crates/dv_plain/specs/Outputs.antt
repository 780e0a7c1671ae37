-- What the output functions of all components give at an instant, and what happens to them.
use Rattle.std.specs.Prelude.{ℕ, List, [], ◌∷◌, Result}
use Rattle.dv_bag.specs.Bag.{Counts}
use Rattle.dv_bag.specs.declared.fault.Fault.{Fault}
use Rattle.dv_syntax.specs.Trees.{FileTree}
use Rattle.dv_devs.specs.Behaviour.{Behaviour, Component, Reaction, emission}
use Rattle.dv_devs.specs.Network.{reactions}
use Rattle.dv_react.specs.Components.{components_of, rank_of}
use Rattle.dv_plain.specs.Source.{network_of}
use Rattle.dv_react.specs.declared.running.Running.{Running}
use Rattle.dv_react.specs.declared.instant.Instant.{Instant}

-- what they give, component by component
abbrev pub outputs : List Behaviour → ℕ → List Component → List (Result (List Counts) Fault)
outputs [] now cs = []
outputs (b ∷ bs) now [] = []
outputs (b ∷ bs) now (c ∷ cs) = emission b now c ∷ outputs bs now cs

-- what the components of a text give at an instant
abbrev pub outputs_at : Instant → FileTree → List Running → List (Result (List Counts) Fault)
outputs_at i f rs = outputs (network_of i.limit f).behaviours (rank_of i) (components_of i.limit rs)

-- what happens to them there, from what each receives
abbrev pub reactions_at : Instant → FileTree → List Running → List (List Counts) → List Reaction
reactions_at i f rs received = reactions i.limit (network_of i.limit f).behaviours (rank_of i) (components_of i.limit rs) received
