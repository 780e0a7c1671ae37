use Rattle.std.proofs.Common.{◌≡◌, map}
use Rattle.dv_source.specs.Sources.{coupled_item_of}
use Rattle.dv_syntax.specs.Trees.{coupled_of}
use Rattle.dv_syntax.specs.Written.{sorted_coupled_items}
use Rattle.dv_expand.proofs.coupled.coupled.Given as goal

abbrev pub invariant-loop-item : goal.invariant-loop-item
invariant-loop-item l = coupled_of l.coupled ≡ sorted_coupled_items l.fn.source.name (map coupled_item_of l.yielded)
