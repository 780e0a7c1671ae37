use Rattle.std.proofs.Common.{◌+◌, ◌<◌, length, ap, arith}
use Rattle.std.proofs.lemmas.Bool.{ltb-true}
use Rattle.std.proofs.lemmas.List.{get_or_default}
use Rattle.dv_share.proofs.run.is_last.Goals as goal

pub returns-then-index-items-2-clause-to : goal.returns-then-index-items-2-clause-to
returns-then-index-items-2-clause-to g c = λ is k d ge lt.
    let n = g.T.Numbered.number in
    let xs = c.args.items.now in
    let i = c.args.index in
    let r = c.index-items-index.result in
    let within : i < length xs = omega (arith, c.if-index-items.false) in
    let at = ap n (get_or_default xs i d r within) in
    omega (arith, at, ap n c.index-items-index.is, c.number.ensures, c.if-number.false, c.requires k i d (omega (arith, lt)) within)

pub returns-else-index-items-2-clause-to : goal.returns-else-index-items-2-clause-to
returns-else-index-items-2-clause-to g c = λ is k d ge lt.
    let n = g.T.Numbered.number in
    let xs = c.args.items.now in
    let i = c.args.index in
    let r = c.index-items-index.result in
    let within : i < length xs = omega (arith, c.if-index-items.false) in
    let at = ap n (get_or_default xs i d r within) in
    omega (arith, at, ap n c.index-items-index.is, c.number.ensures, c.if-number.false, c.requires k i d (omega (arith, lt)) within)

-- the item behind it is of a later number
pub returns-else-index-items-2-clause-behind : goal.returns-else-index-items-2-clause-behind
returns-else-index-items-2-clause-behind g c = λ is k d le lt.
    let n = g.T.Numbered.number in
    let xs = c.args.items.now in
    let i = c.args.index + 1 in
    let r = c.index-items-index-else-index-items-2.result in
    let within : i < length xs = omega (arith, le, lt) in
    let at = ap n (get_or_default xs i d r within) in
    omega (
      arith,
      ltb-true _ _ is,
      at,
      ap n c.index-items-index-else-index-items-2.is,
      c.number-else-index-items-2.ensures,
      c.requires i k d le lt,
    )
