use Rattle.std.proofs.Common.{◌≤◌, ◌+◌, ◌++◌, List, drop, length, map, ap, sym, ◌∙◌, subst, arith}
use Rattle.std.specs.List.{All}
use Rattle.std.proofs.lemmas.List.Elements.{All-push}
use Rattle.dv_syntax.specs.Trees.{atomic_of, file_of}
use Rattle.dv_devs.specs.Behaviour.{Component}
use Rattle.dv_tree.specs.Instances.{Instance, instances}
use Rattle.dv_react.specs.declared.running.Running.{Running}
use Rattle.dv_react.specs.Components.{IsWaitOfRun, component_of}
use Rattle.dv_plain.specs.Source.{start_of}
use Rattle.dv_plain.proofs.Steps.{starts-end, starts-turn}
use Rattle.dv_plain.proofs.run.begin.Goals as goal

pub loop-k-preserved : goal.loop-k-preserved
loop-k-preserved c =
    let is = instances (file_of c.args.tree.now.file) in
    let limit = c.args.limit in
    let xs = c.loop-k.components.items in
    let r = c.in_ok-start.field-0 in
    let all : List Component = map (λ (i : Instance). start_of limit i.model) is in
    record {
      start =
          ap (λ (ys : List Running). map (component_of limit) ys ++ map (λ (i : Instance). start_of limit i.model)
          (drop (c.loop-k.k + 1) is)) c.in_ok-push.ensures.items
          ∙ starts-turn limit is xs c.loop-k.k
          (atomic_of c.of.result.model.now) r all c.of.ensures c.in_ok-start.ensures.start c.loop-k.invariant.start;
      waits =
          subst (All (λ (x : Running). IsWaitOfRun limit x.wait)) (sym c.in_ok-push.ensures.items)
          (All-push (λ (x : Running). IsWaitOfRun limit x.wait) xs r c.loop-k.invariant.waits c.in_ok-start.ensures.wait);
    }

pub returns-clause-start : goal.returns-clause-start
returns-clause-start c =
    let is = instances (file_of c.args.tree.now.file) in
    let limit = c.args.limit in
    let count : length is ≤ c.loop-k.k = omega (arith, c.component_count-k-end.ensures.value) in
    starts-end limit is (map (component_of limit) c.loop-k.components.items)
    (map (λ (i : Instance). start_of limit i.model) is) c.loop-k.k count c.loop-k.invariant.start
