use Rattle.std.proofs.Common.{◌<◌, ◌^◌, length, sym, ap, subst, ◌∙◌, arith, rules}
use Rattle.std.proofs.lemmas.Option.{slice_get_past}
use Rattle.std.specs.Prelude.{slice_get}
use Rattle.dv_bag.specs.Bag.{Counts, IsBag}
use Rattle.dv_bag.proofs.Pairs.{copies_above_0}
use Rattle.dv_code.proofs.walk.pair_of.Goals as goal

pub returns-then-number-pairs-clause-some : goal.returns-then-number-pairs-clause-some
returns-then-number-pairs-clause-some c =
    let pairs = c.pairs-pairs.result.now in
    let bag = subst IsBag (sym c.pairs-pairs.ensures.walk) c.pairs-pairs.ensures.bag in
    let long : length pairs < 2 ^ 64 = search rules in
    (copies_above_0 pairs bag c.args.number c.if-number-pairs.true, omega (arith, c.if-number-pairs.true, long))

pub returns-else-number-pairs-clause-pair : goal.returns-else-number-pairs-clause-pair
returns-else-number-pairs-clause-pair c =
    sym (slice_get_past c.pairs-pairs.result.now c.args.number c.if-number-pairs.false)
    ∙ ap (λ (b : Counts). slice_get b c.args.number) c.pairs-pairs.ensures.walk
