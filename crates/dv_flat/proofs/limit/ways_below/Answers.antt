use Rattle.std.proofs.Common.{ap, sym, ◌∙◌, map}
use Rattle.dv_syntax.specs.Trees.{model_of}
use Rattle.dv_flat.specs.Ways.{ways_over}
use Rattle.dv_flat.proofs.Settled.{settled}
use Rattle.dv_flat.proofs.limit.ways_below.Goals as goal

pub returns-then-are_same : goal.returns-then-are_same
returns-then-are_same c =
    let models = map model_of c.args.tree.now.reached in
    let over =
    c.in_ok-over.ensures ∙ ap (λ below. ways_over below models) c.deref.ensures.value in
    let same =
    sym c.deref-in-loop-level.ensures.value ∙ c.are_same.ensures c.if-are_same.true ∙ c.deref-in-loop-level-2.ensures.value in
    settled c.args.levels c.loop-level._level models c.loop-level.ways.items c.in_ok-over.over.items c.loop-level-test.true
    c.loop-level.invariant over same
