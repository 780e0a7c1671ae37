use Rattle.std.proofs.Common.{◌∙◌, ℕ, List, ap, eqb, length, subst, sym}
use Rattle.std.specs.List.{IsDistinct}
use Rattle.dv_eval.specs.Scope.{Scope}
use Rattle.dv_syntax.specs.Trees.{file_of}
use Rattle.dv_tree.specs.Instances.{instances}
use Rattle.dv_flat.specs.Ends.{output_count, output_ports}
use Rattle.dv_flat.proofs.PortLists.{distinct_outputs, instance_at, ports_step}
use Rattle.dv_flat.proofs.ports.output_ports.Goals as goal

pub add_ports-requires : goal.add_ports-requires
add_ports-requires c =
    let at = instance_at (instances (file_of c.args.tree.now.file)) c.loop-component.component c.scope.result.now c.scope.ensures in
    subst (λ (names : List ℕ). IsDistinct eqb names) (sym c.outputs.ensures) (distinct_outputs at)

pub loop-component-preserved : goal.loop-component-preserved
loop-component-preserved c =
    let f = file_of c.args.tree.now.file in
    let at = instance_at (instances f) c.loop-component.component c.scope.result.now c.scope.ensures in
    ports_step at output_count (length c.outputs.result.now) c.loop-component.ports.items c.add_ports.new.ports.items (output_ports f)
    (ap (λ (s : Scope). length s.outputs) at.scope ∙ sym (ap length c.outputs.ensures)) c.in_ok-add_ports.ensures
    c.loop-component.invariant
