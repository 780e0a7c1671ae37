use Rattle.std.proofs.Common.{◌∙◌, ◌∷◌, ◌++◌, [], ap, arith, map, sym}
use Rattle.std.specs.List.{range_with_len}
use Rattle.std.proofs.lemmas.List.{append_assoc}
use Rattle.std.proofs.lemmas.List.FromFn.{map-range_with_len_more}
use Rattle.dv_eval.proofs.Names.{length-le_from_fits}
use Rattle.dv_flat.specs.Ends.{port_at}
use Rattle.dv_flat.proofs.ports.add_ports.Goals as goal

pub overflow_cast-port : goal.overflow_cast-port
overflow_cast-port c = record { fits = omega (arith, length-le_from_fits c.args.names.now c.requires c.type_inv.names) }

pub loop-port-preserved : goal.loop-port-preserved
loop-port-preserved c =
    let port = port_at c.args.component in
    let before = map port (range_with_len 0 c.loop-port.port) in
    let more = map-range_with_len_more port 0 c.loop-port.port c.loop-port.port (omega arith) in
    c.in_ok-push.ensures.items
    ∙ (ap (λ ps. ps ++ port c.loop-port.port ∷ []) c.loop-port.invariant
    ∙ (append_assoc c.args.ports.now.items before (port c.loop-port.port ∷ []) ∙ ap (λ ps. c.args.ports.now.items ++ ps) (sym more)))
