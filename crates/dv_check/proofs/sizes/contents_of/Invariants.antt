use Rattle.std.proofs.Common.{◌≡◌, ◌++◌, map, drop}
use Rattle.dv_syntax.specs.Trees.{model_of}
use Rattle.dv_check.specs.Sizes.{contents_by, contents_of}
use Rattle.dv_check.specs.Tables.{value_for}
use Rattle.dv_check.proofs.sizes.contents_of.Given as goal

abbrev pub invariant-loop-model : goal.invariant-loop-model
invariant-loop-model l =
    map contents_by l.contents.items ++ map (contents_of (value_for l.positions)) (map model_of (drop l.model-index l.models))
    ≡ map (contents_of (value_for l.positions)) (map model_of l.models)
