use Rattle.std.proofs.Common.{◌≡◌, IfOk, ap, ◌∙◌, subst}
use Rattle.dv_devs.specs.Behaviour.{Component}
use Rattle.dv_react.specs.Components.{component_of}
use Rattle.dv_react.specs.Starts.{starting}
use Rattle.dv_react.specs.declared.running.Running.{Running}
use Rattle.dv_syntax.specs.Trees.{atomic_of}
use Rattle.dv_plain.specs.Source.{behaviour_of}
use Rattle.dv_plain.proofs.Starts.{starting-start_of}
use Rattle.dv_plain.proofs.run.start.Goals as goal

pub returns-clause-start : goal.returns-clause-start
returns-clause-start c =
    let limit = c.args.limit in
    let m = atomic_of c.args.atom.now.model.now in
    subst (λ (x : Component). IfOk c.start.result (λ (r : Running). component_of limit r ≡ x))
    (ap (starting limit (behaviour_of m)) c.in_ok-state.ensures ∙ starting-start_of limit m) c.start.ensures.start
