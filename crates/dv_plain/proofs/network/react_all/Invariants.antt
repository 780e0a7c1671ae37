use Rattle.std.proofs.Common.{◌≡◌, ◌++◌, map, take, drop}
use Rattle.std.specs.List.{All}
use Rattle.dv_syntax.specs.Trees.{file_of}
use Rattle.dv_devs.specs.Behaviour.{Reaction}
use Rattle.dv_tree.specs.Instances.{instances}
use Rattle.dv_react.specs.declared.running.Running.{Running}
use Rattle.dv_react.specs.Components.{IsWaitOfRun, component_of, rank_of}
use Rattle.dv_plain.proofs.Steps.{entries_from, reactions_from}
use Rattle.dv_plain.proofs.network.react_all.Given as goal

-- what happened so far, and what happens to the components from k on
abbrev pub invariant-loop-k : goal.invariant-loop-k
invariant-loop-k l =
    let is = instances (file_of l.tree.file) in
    let limit = l.instant.limit in
    let now = rank_of l.instant in
    let first = l.initial.components in
    record {
      waits : All (λ (r : Running). IsWaitOfRun limit r.wait) l.components;
      rest : drop l.k l.components ≡ drop l.k first;
      components :
          map (component_of limit) (take l.k l.components)
          ++ map (λ (r : Reaction). r.component) (reactions_from limit is now first l.received l.k)
          ≡ map (λ (r : Reaction). r.component) (reactions_from limit is now first l.received 0);
      entries :
          l.trace.entries ++ entries_from limit now l.k (reactions_from limit is now first l.received l.k)
          ≡ l.initial.trace.entries ++ entries_from limit now 0 (reactions_from limit is now first l.received 0);
      sent : drop l.k l.emitted.sent.items ≡ drop l.k l.initial.emitted.sent.items;
      faults : l.emitted.faults.items ≡ l.initial.emitted.faults.items;
      outer : l.trace.outer ≡ l.initial.trace.outer;
    }
