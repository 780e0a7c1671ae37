use Rattle.std.proofs.Common.{map, ap, ◌∙◌}
use Rattle.std.specs.List.{filter_map, fold}
use Rattle.dv_syntax.specs.Trees.{coupled_of, model_of}
use Rattle.dv_check.specs.Cycles.{position_inside}
use Rattle.dv_check.specs.Sizes.{alone, contents_by, sizes_below, with_part_at}
use Rattle.dv_check.specs.Tables.{value_for}
use Rattle.dv_check.proofs.Counting.{counted_by}
use Rattle.dv_check.proofs.sizes.size_of_tree.Goals as goal

pub returns : goal.returns
returns c =
    let positions = value_for c.in_ok-positions.positions in
    let sizes = c.in_ok-sizes.sizes.items in
    let found = map contents_by c.in_ok-contents.contents.items in
    let inside = c.in_ok-inside.inside.items in
    counted_by (map model_of c.args.models.now) c.args.levels (coupled_of c.args.root.now) positions found sizes inside _
    c.in_ok-positions.ensures c.in_ok-contents.ensures
    (c.in_ok-sizes.ensures ∙ ap (λ contents. sizes_below c.args.levels (map contents_by contents)) c.deref.ensures.value)
    (c.in_ok-inside.ensures ∙ ap (filter_map (position_inside positions)) c.deref-2.ensures.value)
    (c.size_with_parts.ensures
    ∙ (ap (λ s. fold (with_part_at s) alone c.deref-4.result.now) c.deref-3.ensures.value
    ∙ ap (fold (with_part_at sizes) alone) c.deref-4.ensures.value))
