use Rattle.std.proofs.Common.{◌<◌, ◌≤◌, ◌-◌, length, ap, arith}
use Rattle.std.proofs.lemmas.Bool.{ltb-true}
use Rattle.std.proofs.lemmas.List.{get_or_default}
use Rattle.dv_share.proofs.run.is_first.Goals as goal

pub returns-then-index-eq0-clause-from : goal.returns-then-index-eq0-clause-from
returns-then-index-eq0-clause-from g c = λ is k d le lt.
    let n = g.T.Numbered.number in
    let xs = c.args.items.now in
    let i = c.args.index in
    let r = c.index-items-index.result in
    let at = ap n (get_or_default xs i d r (omega (arith, le, lt))) in
    omega (arith, at, ap n c.index-items-index.is, c.number.ensures, c.if-number.false, c.requires i k d le lt)

pub returns-else-index-eq0-clause-from : goal.returns-else-index-eq0-clause-from
returns-else-index-eq0-clause-from g c = λ is k d le lt.
    let n = g.T.Numbered.number in
    let xs = c.args.items.now in
    let i = c.args.index in
    let r = c.index-items-index.result in
    let at = ap n (get_or_default xs i d r (omega (arith, le, lt))) in
    omega (arith, at, ap n c.index-items-index.is, c.number.ensures, c.if-number.false, c.requires i k d le lt)

-- the item in front of it is of an earlier number
pub returns-else-index-eq0-clause-before : goal.returns-else-index-eq0-clause-before
returns-else-index-eq0-clause-before g c = λ is k d ge lt.
    let n = g.T.Numbered.number in
    let xs = c.args.items.now in
    let i = c.args.index - 1 in
    let r = c.index-items-index-else-index-eq0.result in
    let within : i < length xs = omega (arith, lt, c.if-index-items.false) in
    let order : k ≤ i = omega (arith, lt) in
    let at = ap n (get_or_default xs i d r within) in
    omega (
      arith,
      ltb-true _ _ is,
      at,
      ap n c.index-items-index-else-index-eq0.is,
      c.number-else-index-eq0.ensures,
      c.requires k i d order within,
    )
