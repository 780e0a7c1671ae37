use Rattle.std.proofs.Common.{sym, ◌∙◌}
use Rattle.std.specs.Vec.Iter.{into_iter_items}
use Rattle.std.proofs.lemmas.List.{append-nil}
use Rattle.dv_tree.proofs.Travel.{sunk}
use Rattle.dv_tree.proofs.routing.+sink.Goals as goal

pub sink_parts-returns-clause-kept : goal.sink_parts-returns-clause-kept
sink_parts-returns-clause-kept t c =
    let at = c.loop-part in
    let end = sunk c.args.depth c.args.levels.now c.args.level.now c.parts-part-items.result.now c.if-depth-eq0.false
    c.parts-part-items.ensures at.part-index c.loop-part-test.false (into_iter_items at.parts) (into_iter_items at.kept)
    (into_iter_items c.args.kept.now) (into_iter_items c.args.parts.now) at.received.items c.args.received.now.items
    at.invariant in
    end.rest

pub sink_parts-returns-clause-received : goal.sink_parts-returns-clause-received
sink_parts-returns-clause-received t c =
    let at = c.loop-part in
    let end = sunk c.args.depth c.args.levels.now c.args.level.now c.parts-part-items.result.now c.if-depth-eq0.false
    c.parts-part-items.ensures at.part-index c.loop-part-test.false (into_iter_items at.parts) (into_iter_items at.kept)
    (into_iter_items c.args.kept.now) (into_iter_items c.args.parts.now) at.received.items c.args.received.now.items
    at.invariant in
    sym (append-nil at.received.items) ∙ end.received_is
