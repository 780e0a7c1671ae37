use Rattle.std.proofs.Common.{◌≡◌, drop, map}
use Rattle.dv_syntax.specs.Trees.{model_of}
use Rattle.dv_check.specs.Names.{model_named}
use Rattle.dv_tree.proofs.tables.root.Given as goal

-- the root is behind the models so far
abbrev pub invariant-loop-model : goal.invariant-loop-model
invariant-loop-model l =
    model_named l.file.root.number (map model_of (drop l.model-index l.file.models.items)) ≡ model_named l.file.root.number
    (map model_of l.file.models.items)
