use Rattle.std.proofs.Common.{◌≡◌, ◌||◌, drop, map, string_bytes}
use Rattle.dv_partition.specs.Answers.{stands}
use Rattle.dv_partition.specs.Listed.{Text}
use Rattle.dv_partition.specs.Steps.{is_in}
use Rattle.dv_partition.proofs.listed.known_paths.Given as goal

abbrev pub invariant-loop-path : goal.invariant-loop-path
invariant-loop-path l = (text : Text) →
    (is_in l.known text || stands text (map string_bytes (drop l.path-index l.paths))) ≡ stands text (map string_bytes l.paths)
