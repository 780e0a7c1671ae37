use Rattle.std.specs.List.{All}
use Rattle.dv_syntax.specs.Trees.{file_of}
use Rattle.dv_react.specs.declared.running.Running.{Running}
use Rattle.dv_react.specs.Components.{IsWaitOfRun}
use Rattle.dv_plain.proofs.Reached.{Laws, Reached, work}
use Rattle.dv_plain.proofs.run.resultant_run.Given as goal

-- every instant before some rank is over, and the laws of runs and inputs are at hand
abbrev pub invariant-instants : goal.invariant-instants
invariant-instants l = record {
  laws : Laws l.limit (file_of l.tree.file) l.inputs;
  reached : Reached l.limit (file_of l.tree.file) l.inputs l.horizon l.components.items l.trace l.index;
  waits : All (λ (r : Running). IsWaitOfRun l.limit r.wait) l.components.items;
}

-- what is left from the next instant to the end
abbrev pub decreases-instants : goal.decreases-instants
decreases-instants l = work l.limit l.inputs l.horizon l.components.items l.index
