use Rattle.std.proofs.Common.{◌<◌, length, ap, ◌∙◌, arith}
use Rattle.dv_check.specs.Tables.{value_for}
use Rattle.dv_tree.proofs.IndexLemmas.{index_added, none_at_first}
use Rattle.dv_tree.proofs.indices.firsts.Goals as goal

pub loop-index-init : goal.loop-index-init
loop-index-init c = none_at_first (value_for c.in_ok-firsts.firsts) c.in_ok-firsts.ensures

pub loop-index-preserved : goal.loop-index-preserved
loop-index-preserved c = λ q.
    let numbers = c.args.numbers.now in
    let within : c.loop-index.index < length numbers = omega arith in
    ap (λ f. f q) c.in_ok-add.ensures.added
    ∙ index_added numbers c.loop-index.index within (value_for c.loop-index.firsts) c.loop-index.invariant q
