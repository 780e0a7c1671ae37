use Rattle.std.proofs.Common.{nat_eq, arith}
use Rattle.std.proofs.lemmas.Bool.{eq-eqb}
use Rattle.dv_share.proofs.Indices.{differ}
use Rattle.dv_share.proofs.Ranges.{part_is_filter}
use Rattle.dv_share.proofs.run.run_of.Goals as goal

pub returns : goal.returns
returns g c =
    let n = g.T.Numbered.number in
    let k = c.args.number in
    let e = c.indices_of-first.ensures in
    part_is_filter (λ x. nat_eq (n x) k) c.indices_of-first.result.0 c.indices_of-first.result.1 c.args.items.now e.order e.within
    (λ i d le lt. differ _ k (λ same. absurd (omega (arith, same, e.before i d le lt))))
    (λ i d le lt. eq-eqb _ k (e.there i d le lt))
    (λ i d le lt. differ _ k (λ same. absurd (omega (arith, same, e.behind i d le lt))))
