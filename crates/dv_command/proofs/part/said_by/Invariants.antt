use Rattle.std.proofs.Common.{◌≡◌, ◌++◌, map, drop, option_map, string_bytes}
use Rattle.dv_command.specs.Steps.{reading_of, said_in}
use Rattle.dv_command.specs.Words.{Ready, said_by}
use Rattle.dv_command.proofs.part.said_by.Given as goal

abbrev pub invariant-loop-word : goal.invariant-loop-word
invariant-loop-word l =
    said_by l.subcommand Ready (map string_bytes l.words)
    ≡ option_map (λ more. map said_in l.parts.items ++ more)
    (said_by l.subcommand (reading_of l.index) (map string_bytes (drop l.word-index l.words)))
