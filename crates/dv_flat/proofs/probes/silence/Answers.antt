use Rattle.std.proofs.Common.{◌∙◌, ◌∷◌, ◌++◌, [], ap, length, sym}
use Rattle.dv_syntax.specs.Trees.{file_of}
use Rattle.dv_eval.specs.Scope.{Scope}
use Rattle.dv_tree.specs.Instances.{instances}
use Rattle.dv_flat.specs.Probes.{silence}
use Rattle.dv_flat.proofs.PortLists.{instance_at}
use Rattle.dv_flat.proofs.ProbeLists.{silence_step}
use Rattle.dv_flat.proofs.probes.silence.Goals as goal

pub loop-component-preserved : goal.loop-component-preserved
loop-component-preserved c =
    let is = instances (file_of c.args.tree.now.file) in
    let ports = c.output_count-ports.result in
    let at = instance_at is c.loop-component.component c.scope.result.now c.scope.ensures in
    let own = ap (λ (s : Scope). length s.outputs) at.scope ∙ sym c.output_count-ports.ensures in
    silence_step at ports c.loop-component.sent.items c.push.new.self.items (silence is) own
    (c.in_ok-push.ensures.items ∙ ap (λ bags. c.loop-component.sent.items ++ bags ∷ []) c.empty.ensures)
    c.loop-component.invariant
