use Rattle.std.proofs.Common.{pos, ap, ◌∙◌, arith}
use Rattle.std.proofs.lemmas.List.{at_drop_more, at_drop_all}
use Rattle.dv_bag.specs.Bag.{size, total}
use Rattle.dv_bag.proofs.bag.Bag.size.Goals as goal

pub loop-pair-preserved : goal.loop-pair-preserved
loop-pair-preserved c =
    let step = at_drop_more total c.as_slice-pair-items.result.now c.loop-pair.pair-index (pos 0, 0) (omega arith) in
    (omega arith, omega arith)

pub returns : goal.returns
returns c =
    let all = at_drop_all total c.as_slice-pair-items.result.now c.loop-pair.pair-index (omega arith) in
    let same = ap size (c.as_slice-pair-items.ensures ∙ c.self.view_is) in
    omega arith
