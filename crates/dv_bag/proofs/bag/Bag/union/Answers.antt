use Rattle.std.proofs.Common.{subst, sym}
use Rattle.dv_bag.specs.Bag.{IsBag}
use Rattle.dv_bag.proofs.Monoid.{union_bag}
use Rattle.dv_bag.proofs.bag.Bag.union.Goals as goal

pub invariant_of-self : goal.invariant_of-self
invariant_of-self c =
    subst IsBag (sym c.in_ok-self-inside.ensures)
    (union_bag c.as_slice.result.now c.as_slice-2.result.now (subst IsBag (sym c.as_slice.ensures) c.self.invariant)
    (subst IsBag (sym c.as_slice-2.ensures) c.other.invariant))
