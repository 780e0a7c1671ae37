use Rattle.std.proofs.Common.{◌≡◌, ◌++◌, drop, map}
use Rattle.std.specs.List.{All}
use Rattle.dv_syntax.specs.Trees.{file_of}
use Rattle.dv_tree.specs.Instances.{Instance, instances}
use Rattle.dv_react.specs.declared.running.Running.{Running}
use Rattle.dv_react.specs.Components.{IsWaitOfRun, component_of}
use Rattle.dv_plain.specs.Source.{start_of}
use Rattle.dv_plain.proofs.run.begin.Given as goal

-- the components so far, and those from k on
abbrev pub invariant-loop-k : goal.invariant-loop-k
invariant-loop-k l =
    let is = instances (file_of l.tree.file) in
    record {
      start :
          map (component_of l.limit) l.components.items ++ map (λ (i : Instance). start_of l.limit i.model) (drop l.k is) ≡ map
          (λ (i : Instance). start_of l.limit i.model) is;
      waits : All (λ (r : Running). IsWaitOfRun l.limit r.wait) l.components.items;
    }
