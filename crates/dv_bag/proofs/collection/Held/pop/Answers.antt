use Rattle.std.proofs.Common.{◌≤◌, subst, sym}
use Rattle.dv_bag.specs.Collections.{count_in}
use Rattle.dv_bag.specs.declared.collection.Collection.{Collection}
use Rattle.dv_bag.proofs.HeldOnes.{without_first_few}
use Rattle.dv_bag.proofs.collection.Held.pop.Goals as goal

pub invariant_of-self : goal.invariant_of-self
invariant_of-self c =
    let few = subst (λ (x : Collection). count_in x ≤ 4096) (sym c.deref_mut.ensures.value) c.self.invariant in
    subst (λ (x : Collection). count_in x ≤ 4096) (sym c.pop.ensures) (without_first_few 4096 c.deref_mut.result.now few)
