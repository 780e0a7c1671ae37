use Rattle.std.proofs.Common.{ap, sym, ◌∙◌, map}
use Rattle.dv_check.specs.Sizes.{contents_by, size_by}
use Rattle.dv_check.proofs.SettledSizes.{settled}
use Rattle.dv_check.proofs.sizes.sizes_below.Goals as goal

pub returns-then-are_same : goal.returns-then-are_same
returns-then-are_same c =
    let contents = map contents_by c.args.contents.now in
    let over = c.in_ok-over.ensures ∙ ap (λ below. map (size_by below) contents) c.deref.ensures.value in
    let same =
    sym c.deref-in-loop-level.ensures.value ∙ c.are_same.ensures c.if-are_same.true ∙ c.deref-in-loop-level-2.ensures.value in
    settled c.args.levels c.loop-level._level contents c.loop-level.sizes.items c.in_ok-over.over.items c.loop-level-test.true
    c.loop-level.invariant over same
