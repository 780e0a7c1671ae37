use Rattle.std.proofs.Common.{◌∙◌, ◌++◌, ap, string_bytes}
use Rattle.dv_plan.proofs.Texts.{next_path, with_value}
use Rattle.dv_plan.proofs.text.push_paths.Goals as goal

pub loop-component-preserved : goal.loop-component-preserved
loop-component-preserved g c =
    with_value _ _ _ _ _ c.in_ok-push_front.ensures c.in_ok-push_path.ensures
    (ap (λ rest. string_bytes c.loop-component.text ++ rest)
    (next_path (g.N.Names.names c.args.names.now) c.loop-component.component c.components-count.result c.loop-component-test.true)
    ∙ c.loop-component.invariant)
