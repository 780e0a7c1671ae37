use Rattle.std.proofs.Common.{◌≡◌, ◌++◌, map, drop}
use Rattle.std.specs.Prelude.{string_bytes}
use Rattle.dv_command.proofs.viewed.owned.Given as goal

abbrev pub invariant-loop-text : goal.invariant-loop-text
invariant-loop-text l =
    map string_bytes l.copies.items ++ map (λ text. text.now) (drop l.text-index l.texts) ≡ map (λ text. text.now) l.texts
