use Rattle.std.proofs.Common.{◌∙◌, ◌∷◌, ◌+◌, ◌-◌, ◌++◌, [], ap, arith, length, sym}
use Rattle.std.specs.List.{range_with_len}
use Rattle.std.proofs.lemmas.List.{append_assoc}
use Rattle.dv_syntax.specs.Trees.{file_of}
use Rattle.dv_tree.specs.Instances.{root_inputs}
use Rattle.dv_flat.proofs.Ranges.{range_more}
use Rattle.dv_flat.proofs.ports.root_inputs.Goals as goal

pub loop-port-preserved : goal.loop-port-preserved
loop-port-preserved c =
    let at = c.loop-port in
    let count = length (root_inputs (file_of c.args.tree.now.file)) in
    let rest = range_with_len (at.port + 1) (count - (at.port + 1)) in
    ap (λ ports. ports ++ rest) c.in_ok-push.ensures.items
    ∙ (append_assoc at.ports.items (at.port ∷ []) rest
    ∙ (ap (λ ports. at.ports.items ++ ports)
    (sym (range_more at.port count (omega (arith, c.loop-port-test.true, c.input_count-port-end.ensures.value)))) ∙ at.invariant))
