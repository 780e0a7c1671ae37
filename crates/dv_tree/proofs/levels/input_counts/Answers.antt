use Rattle.std.proofs.Common.{length, map, get_or, refl}
use Rattle.dv_tree.specs.Tables.{ports_at}
use Rattle.dv_tree.proofs.Gathered.{gathered_more}
use Rattle.dv_tree.proofs.levels.input_counts.Goals as goal

pub loop-part-preserved : goal.loop-part-preserved
loop-part-preserved c =
    let part = c.loop-part.part-index in
    gathered_more (λ parts. map length (ports_at c.args.inputs.now parts)) _ _ part c.args.parts.now
    (get_or c.args.parts.now part (record { name = record { number = 0; offset = 0 }; model = 0 })) _ _ _ c.loop-part-test.true refl
    c.port_count.ensures c.in_ok-push.ensures.items c.loop-part.invariant (λ rest. refl)
