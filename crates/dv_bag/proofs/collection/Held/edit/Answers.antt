use Rattle.std.proofs.Common.{◌≡◌, ◌<◌, ◌≤◌, true, subst, sym, ◌∙◌}
use Rattle.dv_bag.specs.Collections.{count_in, makes_more}
use Rattle.dv_bag.specs.declared.collection.Collection.{Collection}
use Rattle.dv_bag.proofs.HeldOnes.{edit_few}
use Rattle.dv_bag.proofs.collection.Held.edit.Goals as goal

pub invariant_of-self : goal.invariant_of-self
invariant_of-self c =
    let view = sym (c.deref_mut.ensures.value ∙ c.self.view_is) in
    let room : makes_more c.args.change ≡ true → count_in c.deref_mut.result.now < 4096 =
    λ more. subst (λ (x : Collection). count_in x < 4096) view (c.requires more) in
    let few = subst (λ (x : Collection). count_in x ≤ 4096) (sym c.deref_mut.ensures.value) c.self.invariant in
    edit_few 4096 _ _ c.deref_mut.result.now _ c.edit.result few room c.edit.ensures.ok c.edit.ensures.err
