use Rattle.std.proofs.Common.{◌++◌, ap, sym, ◌∙◌, ◌-◌}
use Rattle.std.proofs.lemmas.List.{append-nil, at_drop_all}
use Rattle.dv_tree.specs.Nodes.{components_in, nodes_by, nodes_to}
use Rattle.dv_tree.proofs.Below.{nodes_of_table}
use Rattle.dv_tree.proofs.components.+add_components.Goals as goal

pub returns : goal.returns
returns t c =
    let levels = c.args.levels.now in
    let before = c.args.before.now in
    let inside = nodes_to (c.args.depth - 1) levels in
    let at = c.loop-part in
    let resolved = c.parts-part-items.result.now in
    let end =
    at_drop_all (λ es. at.components.items ++ components_in before (nodes_by inside levels es)) resolved at.part-index
    c.loop-part-test.false in
    let nodes = nodes_of_table c.args.depth levels c.args.level.now resolved c.if-depth-eq0.false c.parts-part-items.ensures in
    sym (append-nil at.components.items)
    ∙ (sym end ∙ (at.invariant ∙ ap (λ n. c.args.components.now.items ++ components_in before n) nodes))
