use Rattle.std.proofs.Common.{◌∙◌, ◌+◌, ap, drop, map, pos, rules, sym}
use Rattle.std.proofs.lemmas.Int.{to_z-of_z}
use Rattle.std.proofs.lemmas.List.{at_drop_more}
use Rattle.dv_flat.specs.Probes.{with_arrivals}
use Rattle.dv_bag.proofs.Pairs.{value_at}
use mir.Syntax.{w64}
use mir.Val.{SFits}
use Rattle.dv_flat.proofs.arrivals.add_arrivals.Goals as goal

pub loop-pair-preserved : goal.loop-pair-preserved
loop-pair-preserved g c =
    let items = c.pairs-pair-items.result.now in
    let index = c.loop-pair.pair-index in
    let lists = map (λ list. list.items) c.loop-pair.lists.items in
    let number : SFits w64 (value_at items index) = search rules in
    let added = simp to_z-of_z at c.in_ok-add_arrival.ensures in
    ap (λ ls. with_arrivals c.args.to ls (drop (index + 1) items)) added
    ∙ (sym (at_drop_more (with_arrivals c.args.to lists) items index (pos 0, 0) c.loop-pair-test.true) ∙ c.loop-pair.invariant)
