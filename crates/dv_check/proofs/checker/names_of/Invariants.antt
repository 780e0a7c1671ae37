use Rattle.std.proofs.Common.{◌≡◌, ◌++◌, map, drop}
use Rattle.dv_syntax.specs.Trees.{model_of}
use Rattle.dv_check.specs.Names.{name_of_model}
use Rattle.dv_check.proofs.checker.names_of.Given as goal

abbrev pub invariant-loop-model : goal.invariant-loop-model
invariant-loop-model l =
    l.names.items ++ map name_of_model (map model_of (drop l.model-index l.models)) ≡ map name_of_model (map model_of l.models)
