use Rattle.std.proofs.Common.{◌≡◌, map, drop}
use Rattle.dv_syntax.specs.Trees.{model_of}
use Rattle.dv_check.specs.Names.{model_named}
use Rattle.dv_check.proofs.checker.model_named.Given as goal

abbrev pub invariant-loop-model : goal.invariant-loop-model
invariant-loop-model l = model_named l.number (map model_of (drop l.model-index l.models)) ≡ model_named l.number (map model_of l.models)
