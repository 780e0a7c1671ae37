use Rattle.std.proofs.Common.{ℕ, ◌-◌, ◌++◌, drop, sym, ◌∙◌}
use Rattle.std.proofs.lemmas.List.{append-nil}
use Rattle.dv_tree.specs.Routing.{along_all}
use Rattle.dv_tree.specs.Nodes.{NoNodes, atomic_count, kept_nodes, leaving_nodes, nodes_to}
use Rattle.dv_tree.proofs.Travel.{Rises, along_all-none, in_slot, none_at_zero, risen, risen_part}
use Rattle.dv_tree.proofs.routing.+rise.Goals as goal

pub rise-returns-clause-kept : goal.rise-returns-clause-kept
rise-returns-clause-kept t c =
    let nodes = nodes_to c.args.depth c.args.levels.now c.args.level.now in
    let sent = c.args.sent.now in
    let parts = c.in_ok-rest.ensures in
    in_slot c.args.level.now (leaving_nodes nodes sent) c.args.kept.now.items (kept_nodes nodes sent) c.keep_slot.new.kept.items
    c.rise_parts.new.kept.items _ c.rise_parts.new.arrived c.in_ok-arrived.arrived c.in_ok-slot.slot parts.kept
    c.in_ok-slot.ensures.kept c.in_ok-slot.ensures.slot parts.arrived c.in_ok-arrived.ensures

pub rise_parts-returns-then-depth-eq0-clause-arrived : goal.rise_parts-returns-then-depth-eq0-clause-arrived
rise_parts-returns-then-depth-eq0-clause-arrived t c =
    none_at_zero c.args.levels.now c.args.level.now c.args.sent.now c.args.arrived.now c.args.depth c.if-depth-eq0.true

pub rise_parts-loop-part-preserved : goal.rise_parts-loop-part-preserved
rise_parts-loop-part-preserved t c =
    let at = c.loop-part in
    let part = c.in_ok-rest.ensures in
    risen_part c.args.level.now.of_parts (nodes_to (c.args.depth - 1) c.args.levels.now) c.args.levels.now
    c.parts-resolved-items.result.now at.part _ _ c.couplings_of_part-couplings.result.now at.rest.now c.in_ok-rest.rest.now
    at.arrived c.rise_part.new.arrived at.kept.items c.rise_part.new.kept.items c.loop-part-test.true c.level_at-inside.ensures
    c.couplings_of_part-couplings.ensures at.invariant part.rest part.arrived part.kept

-- behind the last part nothing is left to come
at_end : (t : ℕ) (c : goal.rise_parts-After-loop-part t) →
    let nodes = nodes_to c.args.depth c.args.levels.now c.args.level.now in
    Rises c.args.level.now.of_parts NoNodes c.loop-part.part c.loop-part.rest.now c.loop-part.arrived c.loop-part.kept.items
    (drop (atomic_count nodes) c.args.sent.now)
    (along_all c.args.level.now.of_parts (leaving_nodes nodes c.args.sent.now) c.args.arrived.now)
    (c.args.kept.now.items ++ kept_nodes nodes c.args.sent.now)
at_end t c =
    let at = c.loop-part in
    risen c.args.depth c.args.levels.now c.args.level.now c.parts-resolved-items.result.now c.if-depth-eq0.false
    c.parts-resolved-items.ensures at.part c.loop-part-test.false c.args.sent.now at.rest.now at.arrived c.args.arrived.now
    at.kept.items c.args.kept.now.items at.invariant

pub rise_parts-returns-clause-rest : goal.rise_parts-returns-clause-rest
rise_parts-returns-clause-rest t c =
    let end = at_end t c in
    end.rest

pub rise_parts-returns-clause-arrived : goal.rise_parts-returns-clause-arrived
rise_parts-returns-clause-arrived t c =
    let end = at_end t c in
    sym (along_all-none (drop c.loop-part.part c.args.level.now.of_parts) c.loop-part.arrived) ∙ end.arrived_is

pub rise_parts-returns-clause-kept : goal.rise_parts-returns-clause-kept
rise_parts-returns-clause-kept t c =
    let end = at_end t c in
    sym (append-nil c.loop-part.kept.items) ∙ end.kept_is
