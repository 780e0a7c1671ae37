use Rattle.std.proofs.Common.{ap, sym, ◌∙◌, drop, replicate}
use Rattle.std.proofs.lemmas.List.{drop_all}
use Rattle.dv_flat.specs.Ways.{output_ways, part_ways}
use Rattle.dv_flat.proofs.Loops.{output_ways-end}
use Rattle.dv_flat.proofs.limit.output_ways.Goals as goal

pub returns : goal.returns
returns c =
    let at = c.loop-index in
    let l = c.args.level.now in
    let below = c.args.below.now in
    sym (output_ways-end (drop at.index l.of_parts) at.ways.items)
    ∙ (ap (λ es. output_ways (drop at.index l.of_parts) (part_ways below es) at.ways.items)
    (sym (drop_all at.index c.parts-part-items.result.now c.loop-index-test.false))
    ∙ (at.invariant
    ∙ ap (λ es. output_ways l.of_parts (part_ways below es) (replicate l.outputs 0)) c.parts-part-items.ensures))
