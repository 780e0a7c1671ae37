use Rattle.std.proofs.Common.{◌≡◌, ◌++◌, drop, string_bytes}
use Rattle.dv_tree.specs.Paths.{behind_dots, texts_of}
use Rattle.dv_tree.proofs.tree.push_others.Given as goal

abbrev pub invariant-loop-number : goal.invariant-loop-number
invariant-loop-number l =
    string_bytes l.text ++ behind_dots (texts_of l.names (drop l.number-index l.numbers))
    ≡ string_bytes l.initial.text ++ behind_dots (texts_of l.names l.numbers)
