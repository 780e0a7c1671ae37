use Rattle.std.proofs.Common.{◌≡◌, map}
use Rattle.dv_source.specs.Sources.{item_of}
use Rattle.dv_syntax.specs.Trees.{atomic_of}
use Rattle.dv_syntax.specs.Written.{sorted_items}
use Rattle.dv_expand.proofs.atomic.atomic.Given as goal

abbrev pub invariant-loop-item : goal.invariant-loop-item
invariant-loop-item l = atomic_of l.atomic ≡ sorted_items l.fn.source.name (map item_of l.yielded)
