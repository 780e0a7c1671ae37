-- What is committed: lists that grow.
use Rattle.std.specs.Prelude.{◌≡◌, ◌++◌, List}

-- a list is another with more behind it
abbrev pub HasGrown : {X : Type 0} → List X → List X → Type 0
HasGrown {X} old new = (more : List X) × (new ≡ old ++ more)
