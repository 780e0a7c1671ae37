use Rattle.std.proofs.Common.{◌≡◌, map, string_bytes, take}
use Rattle.dv_syntax.specs.Trees.{file_of}
use Rattle.dv_flat.specs.Links.{paths_of}
use Rattle.dv_flat.proofs.paths.paths_of.Given as goal

abbrev pub invariant-loop-component : goal.invariant-loop-component
invariant-loop-component l = map string_bytes l.paths.items ≡ take l.component (paths_of l.tree.names (file_of l.tree.file))
