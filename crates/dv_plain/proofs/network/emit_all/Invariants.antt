use Rattle.std.proofs.Common.{◌≡◌, ◌++◌, map}
use Rattle.dv_react.specs.Components.{rank_of}
use Rattle.dv_syntax.specs.Trees.{file_of}
use Rattle.dv_tree.specs.Instances.{instances}
use Rattle.dv_react.specs.Outcomes.{fault_of, sent_of}
use Rattle.dv_plain.specs.Outputs.{outputs}
use Rattle.dv_plain.proofs.Steps.{behaviours_from, components_from}
use Rattle.dv_plain.proofs.network.emit_all.Given as goal

-- the outputs so far, and those of the components from k on
abbrev pub invariant-loop-k : goal.invariant-loop-k
invariant-loop-k l =
    let is = instances (file_of l.tree.file) in
    let limit = l.instant.limit in
    let now = rank_of l.instant in
    record {
      sent :
          l.emitted.sent.items ++ map sent_of (outputs (behaviours_from l.k is) now (components_from limit l.k l.components)) ≡ map sent_of
          (outputs (behaviours_from 0 is) now (components_from limit 0 l.components));
      faults :
          l.emitted.faults.items ++ map fault_of (outputs (behaviours_from l.k is) now (components_from limit l.k l.components))
          ≡ map fault_of (outputs (behaviours_from 0 is) now (components_from limit 0 l.components));
    }
