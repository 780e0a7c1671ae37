use Rattle.std.proofs.Common.{[], ap, ◌∙◌, arith, drop, get_or}
use Rattle.std.specs.List.{sum_by}
use Rattle.std.proofs.lemmas.List.{drop_all}
use Rattle.dv_bag.specs.Bag.{capped}
use Rattle.dv_flat.specs.Ways.{joined_ways, part_ways}
use Rattle.dv_flat.proofs.Loops.{inside_end, inside_from, inside_more}
use Rattle.dv_flat.proofs.limit.inside_ways.Goals as goal

pub loop-index-preserved : goal.loop-index-preserved
loop-index-preserved c =
    let at = c.loop-index in
    let l = c.args.level.now in
    let below = c.args.below.now in
    let all = part_ways below l.parts in
    let more = inside_more below all l.of_parts c.parts-part-items.result.now _ at.index at.ways c.inside_of.result
    c.joined_ways-joined.result c.loop-index-test.true c.inside_of.ensures
    (c.joined_ways-joined.ensures
    ∙ (ap (λ es. capped (sum_by (joined_ways (part_ways below es) c.outputs_of.result.now) c.couplings_of_part-couplings.result.now))
    c.parts.ensures
    ∙ (ap (λ cs. capped (sum_by (joined_ways all c.outputs_of.result.now) cs)) c.couplings_of_part-couplings.ensures
    ∙ ap (λ o. capped (sum_by (joined_ways all o) (get_or l.of_parts at.index []))) c.outputs_of.ensures))) in
    record { kept = omega arith; summed = omega (arith, more, at.invariant.summed) }

pub returns : goal.returns
returns c =
    let at = c.loop-index in
    let l = c.args.level.now in
    let below = c.args.below.now in
    let all = part_ways below l.parts in
    let items = c.parts-part-items.result.now in
    let behind = drop at.index l.of_parts in
    let none = ap (λ es. inside_from all behind (part_ways below es)) (drop_all at.index items c.loop-index-test.false) in
    let end = inside_end all behind in
    let parts = ap (λ es. inside_from all l.of_parts (part_ways below es)) c.parts-part-items.ensures in
    omega (arith, none, end, parts, at.invariant.kept, at.invariant.summed)
