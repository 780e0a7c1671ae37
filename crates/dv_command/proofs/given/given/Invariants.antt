use Rattle.std.proofs.Common.{◌≡◌, ◌++◌, map, drop}
use Rattle.dv_command.specs.Steps.{said_in}
use Rattle.dv_command.specs.Words.{given}
use Rattle.dv_command.proofs.given.given.Given as goal

abbrev pub invariant-loop-part : goal.invariant-loop-part
invariant-loop-part l =
    map (λ text. text.now) l.texts.items ++ given l.name (map said_in (drop l.part-index l.parts))
    ≡ given l.name (map said_in l.parts)
