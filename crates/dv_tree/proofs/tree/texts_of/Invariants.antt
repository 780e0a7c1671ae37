use Rattle.std.proofs.Common.{◌≡◌, ◌++◌, drop, map}
use Rattle.std.specs.Prelude.{string_bytes}
use Rattle.dv_tree.specs.Paths.{texts_of}
use Rattle.dv_tree.proofs.tree.texts_of.Given as goal

abbrev pub invariant-loop-number : goal.invariant-loop-number
invariant-loop-number l =
    map string_bytes l.texts.items ++ texts_of l.names (drop l.number-index l.numbers) ≡ texts_of l.names l.numbers
