use Rattle.std.proofs.Common.{◌≡◌, map}
use Rattle.dv_source.specs.Sources.{written_model}
use Rattle.dv_syntax.specs.Trees.{model_of}
use Rattle.dv_syntax.specs.Written.{sorted_model}
use Rattle.dv_expand.proofs.file.models.Given as goal

abbrev pub invariant-loop-source : goal.invariant-loop-source
invariant-loop-source l = map model_of l.models.items ≡ map sorted_model (map written_model l.yielded)
